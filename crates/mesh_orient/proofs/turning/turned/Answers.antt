use Rattle.std.proofs.Common.{◌≡◌, ◌∙◌, ℕ, List, length, map, refl, sym, ap, arith}
use Rattle.std.proofs.lemmas.List.{length-map}
use Rattle.macro_file.specs.declared.text.MacroVertex.{MacroVertex}
use Rattle.macro_file.specs.Meaning.{Element, Vertex}
use Rattle.macro_file.specs.Text.{vertex_of}
use Rattle.mesh_orient.proofs.Turned.{rows_zero, turned_count}
use Rattle.mesh_orient.proofs.turning.turned.Goals as goal

pub invariant_of-result : goal.invariant_of-result
invariant_of-result c =
    let text = c.args.text.now in
    let shifts = c.args.shifts.now in
    let items = c.in_ok-elements.field-0.items in
    let v : length c.in_ok-vertices.field-0.items ≡ length text.vertices.items = sym (length-map c.in_ok-vertices.field-0.items vertex_of) ∙ ap length (c.in_ok-vertices.ensures ∙ ap (map vertex_of) c.deref.ensures.value) ∙ length-map text.vertices.items vertex_of in
    let e = turned_count text shifts items c.in_ok-elements.ensures in
    let p = c.in_ok-vertices.field-0.ok in
    let q = c.in_ok-elements.field-0.ok in
    record {
      some_vertices = (omega (arith, v, p, text.vertices.ok, text.some_vertices.0), omega (arith, v, p, text.vertices.ok, text.some_vertices.1));
      some_elements = (omega (arith, e, q, text.elements.ok, text.some_elements.0), omega (arith, e, q, text.elements.ok, text.some_elements.1));
      labels_zero = λ none. rows_zero text shifts items c.in_ok-elements.ensures (λ (x : Element). x.labels) (λ k x. refl) (text.labels_zero none);
      neighbours_zero = λ none. rows_zero text shifts items c.in_ok-elements.ensures (λ (x : Element). x.neighbours) (λ k x. refl) (text.neighbours_zero none);
    }
