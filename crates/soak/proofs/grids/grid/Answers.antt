use Rattle.std.proofs.Common.{◌+◌, ◌*◌, refl, arith}
use Rattle.macro_file.specs.Meaning.{Element}
use Rattle.macro_file.specs.Text.{vertex_of, element_of}
use Rattle.macro_file.proofs.AssemblyLemmas.{made_length}
use Rattle.soak.specs.Grid.{vertex_at, element_at}
use Rattle.soak.proofs.GridPlaces.{zero_rows, square_size}
use Rattle.soak.proofs.grids.grid.Goals as goal

pub invariant_of-result : goal.invariant_of-result
invariant_of-result c =
    let side = c.args.side in
    let v = made_length vertex_of (vertex_at side) c.in_ok-vertices.field-0.items ((side + 1) * (side + 1)) c.in_ok-vertices.ensures in
    let e = made_length element_of (element_at side) c.in_ok-elements.field-0.items (2 * (side * side)) c.in_ok-elements.ensures in
    let p = c.in_ok-vertices.field-0.ok in
    let q = c.in_ok-elements.field-0.ok in
    let s = square_size side 128 c.requires.0 c.requires.1 in
    let t = square_size (side + 1) 129 (omega (arith, c.requires.0)) (omega (arith, c.requires.1)) in
    record {
      some_vertices = (omega (arith, v, p.0, t.0), omega (arith, v, p.0, t.1));
      some_elements = (omega (arith, e, q.0, s.0), omega (arith, e, q.0, s.1));
      labels_zero = zero_rows (λ (x : Element). x.labels) c.in_ok-elements.field-0.items side (2 * (side * side)) c.in_ok-elements.ensures (λ n. refl);
      neighbours_zero = zero_rows (λ (x : Element). x.neighbours) c.in_ok-elements.field-0.items side (2 * (side * side)) c.in_ok-elements.ensures (λ n. refl);
    }
