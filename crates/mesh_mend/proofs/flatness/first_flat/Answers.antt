use Rattle.std.proofs.Common.{◌≡◌, ◌+◌, ◌*◌, ◌/◌, ◌%◌, ◌<◌, ℕ, List, [], map, length, sym, ap, ◌∙◌, subst, below_more, true≢false, arith}
use Rattle.std.specs.Prelude.{pos}
use Rattle.std.proofs.lemmas.List.{length-map}
use Rattle.macro_file.specs.declared.text.MacroElem.{MacroElem}
use Rattle.macro_file.specs.Text.{vertex_of}
use Rattle.compat_check.specs.Faults.{triple_in}
use Rattle.compat_check.specs.Meshes.{edge_of}
use Rattle.mesh_mend.specs.Centres.{centre_at}
use Rattle.mesh_mend.specs.Refusals.{piece_area}
use Rattle.mesh_mend.proofs.Rows.{paired, row_is}
use Rattle.mesh_mend.proofs.flatness.first_flat.Goals as goal

pub is_flat-requires-clause-centre : goal.is_flat-requires-clause-centre
is_flat-requires-clause-centre c =
    let es = c.args.elements.now in
    let vs = c.args.vertices.now in
    let i = c.loop-number.number / 3 in
    let less : i < length es = omega (arith, c.loop-number-test.true) in
    paired vertex_of (centre_at vs) c.args.centres.now (map (λ (e : MacroElem). e.corners) es) c.requires.centres i (omega (arith, less, length-map es (λ (e : MacroElem). e.corners))) c.index-centres-element.result c.index-elements-element.result.corners c.index-centres-element.is (sym (row_is (λ (e : MacroElem). e.corners) es i c.index-elements-element.result c.index-elements-element.result.corners less c.index-elements-element.is))
    ∙ ap (λ (e : MacroElem). centre_at vs e.corners) c.index-elements-element.is

pub loop-number-preserved : goal.loop-number-preserved
loop-number-preserved c =
    let es = c.args.elements.now in
    let vs = c.args.vertices.now in
    let n = c.loop-number.number in
    let less : n / 3 < length es = omega (arith, c.loop-number-test.true) in
    let row = row_is (λ (e : MacroElem). e.corners) es (n / 3) c.index-elements-element.result [] less c.index-elements-element.is ∙ ap (λ (e : MacroElem). e.corners) c.index-elements-element.is in
    below_more _ _ c.loop-number.invariant (λ h. true≢false (sym (c.is_flat.ensures.1 ((λ i. piece_area vs (sym row i) (edge_of (n % 3))) ∙ h)) ∙ c.if-is_flat.false))
