use Rattle.std.proofs.Common.{◌≡◌, ◌+◌, ◌*◌, ◌++◌, ℕ, List, map, ap, sym, subst, ◌∙◌, arith, length, true≢false}
use Rattle.std.proofs.lemmas.List.{length-map}
use Rattle.macro_file.specs.declared.text.MacroElem.{MacroElem}
use Rattle.macro_file.specs.declared.text.MacroVertex.{MacroVertex}
use Rattle.macro_file.specs.Text.{vertex_of}
use Rattle.compat_check.specs.Checks.{count_of, triples_of}
use Rattle.mesh_mend.proofs.PieceTexts.{joined_length, no_neighbours, pieces_length}
use Rattle.mesh_mend.proofs.mending.assemble.Goals as goal

pub invariant_of-result : goal.invariant_of-result
invariant_of-result c =
    let text = c.args.text.now in
    let joined = c.in_ok-vertices.ensures in
    let v : length c.in_ok-vertices.vertices.items ≡ length text.vertices.items + count_of text = joined_length c.in_ok-vertices.vertices.items text.vertices.items c.args.centres.items (triples_of text) (joined ∙ (λ i. map vertex_of (c.deref.ensures.value i) ++ map vertex_of c.args.centres.items)) c.requires.centres in
    let e = pieces_length text c.in_ok-elements.elements.items c.in_ok-elements.ensures in
    let p = c.in_ok-vertices.vertices.ok in
    let q = c.in_ok-elements.elements.ok in
    let n : count_of text ≡ length text.elements.items = length-map text.elements.items (λ (x : MacroElem). x.corners) in
    let s = text.some_vertices in
    let t = text.some_elements in
    let sp = text.vertices.ok in
    let tp = text.elements.ok in
    record {
      some_vertices = (omega (arith, v, p, s.0, sp), omega (arith, v, p, c.requires.fits.0));
      some_elements = (omega (arith, e, q, n, t.0, tp), omega (arith, e, q, c.requires.fits.1));
      labels_zero = λ none. absurd (true≢false none);
      neighbours_zero = λ _. no_neighbours text c.in_ok-elements.elements.items c.in_ok-elements.ensures;
    }
