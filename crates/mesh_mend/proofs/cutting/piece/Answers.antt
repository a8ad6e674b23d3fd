use Rattle.std.proofs.Common.{◌≡◌, ◌+◌, ◌*◌, ◌/◌, ◌%◌, ◌<◌, ◌≤◌, ◌∙◌, ℕ, List, [], length, sym, ap, arith, rules}
use Rattle.std.specs.Prelude.{pos}
use Rattle.std.proofs.lemmas.List.{length-map}
use Rattle.std.specs.Int.{w8}
use Rattle.std.proofs.lemmas.Int.{to_z-of_z}
use mir.Val.{to_z, of_z, SFits}
use Rattle.macro_file.specs.declared.text.MacroElem.{MacroElem}
use Rattle.compat_check.specs.Checks.{count_of, triples_of}
use Rattle.compat_check.specs.Faults.{triple_in}
use Rattle.compat_check.specs.Meshes.{edge_of}
use Rattle.mesh_mend.specs.Mended.{label_in, piece_of, value_in}
use Rattle.mesh_mend.proofs.PieceTexts.{label_is, labels_counted}
use Rattle.mesh_mend.proofs.Rows.{row_is}
use Rattle.mesh_mend.proofs.cutting.piece.Goals as goal

pub label_at-requires : goal.label_at-requires
label_at-requires c = (omega (arith, c.requires.number, labels_counted c.args.text.now c.args.labels.now c.requires.labels), omega arith)

pub returns : goal.returns
returns c =
    let text = c.args.text.now in
    let r = c.args.number / 3 in
    let k = c.args.number % 3 in
    let es = text.elements.items in
    let el = c.index.result.now in
    let hr : r < count_of text = omega (arith, c.requires.number) in
    let less : r < length es = omega (arith, hr, length-map es (λ (e : MacroElem). e.corners)) in
    let corners = row_is (λ (e : MacroElem). e.corners) es r el [] less c.index.ensures in
    let value = row_is (λ (e : MacroElem). e.value) es r el (pos 0) less c.index.ensures in
    let fits : SFits w8 c.label_at.result = search rules in
    let label : to_z w8 (of_z w8 c.label_at.result) ≡ label_in text r (edge_of k) = to_z-of_z w8 c.label_at.result fits ∙ c.label_at.ensures ∙ label_is text c.args.labels.now c.requires.labels r k hr (omega arith) in
    let count : c.len.result ≡ length text.vertices.items = omega (arith, c.len.ensures, text.vertices.ok) in
    c.piece_of.ensures ∙ (λ i. piece_of (sym corners i) (count i + r) (label i) (sym value i) (edge_of k))
