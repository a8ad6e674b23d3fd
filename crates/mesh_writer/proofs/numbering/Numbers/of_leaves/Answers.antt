use Rattle.std.proofs.Common.{ℕ, ◌≤◌, ◌∙◌, List, sym, ap, map, subst, length, arith}
use Rattle.std.specs.Prelude.{All}
use Rattle.mesh_names.specs.Patches.{vertex_of}
use Rattle.mesh_names.specs.declared.patch.VertexKey.{VertexKey}
use Rattle.compat_check.specs.Meshes.{shape_of}
use Rattle.compat_check.specs.Points.{Point, point}
use Rattle.mesh_writer.specs.Numbers.{IsKeyOf}
use Rattle.mesh_writer.specs.Orders.{AreBelow, first_slots, numbered, slots_of, with_slots}
use Rattle.mesh_writer.specs.Picks.{IsBelow, key_in, point_in}
use Rattle.mesh_writer.proofs.Moved.{corners_below, in_order, keys_moved, keys_right, macro_fit, points_below, points_moved, triples_moved, written_moved}
use Rattle.mesh_writer.proofs.numbering.Numbers.of_leaves.Goals as goal

pub of_corners-requires-clause-macros : goal.of_corners-requires-clause-macros
of_corners-requires-clause-macros c =
    let fit : length c.args.mesh.now.vertices ≤ length c.in_ok-met.met.slots.keys.items = macro_fit c.args.mesh.now c.in_ok-met.met.slots c.in_ok-met.ensures.slots (length c.args.mesh.now.vertices) (omega arith) in
    omega (arith, fit, c.vertex_count.ensures, c.count.ensures)

pub of_corners-requires-clause-inside : goal.of_corners-requires-clause-inside
of_corners-requires-clause-inside c = subst (λ (p : ℕ × List (List ℕ)). All (AreBelow p.0) p.1) (sym (λ i. (c.count.ensures i, c.deref.ensures.value i)))
    (corners_below (shape_of c.args.mesh.now) c.in_ok-met.met.slots.keys.items c.args.leaves.now c.in_ok-met.met.corners.items c.in_ok-met.ensures.corners)

pub keys_in-requires : goal.keys_in-requires
keys_in-requires c = subst (λ (p : List VertexKey × List ℕ). All (IsBelow (length p.0)) p.1) (sym (λ i. (c.deref-3.ensures.value i, c.deref-2.ensures.value i))) (in_order c.args.mesh.now c.in_ok-met.met.slots c.in_ok-met.ensures.slots c.args.leaves.now c.in_ok-met.met.corners.items c.in_ok-met.ensures.corners c.in_ok-order.order.slots.items (c.in_ok-order.ensures.slots ∙ (λ i. with_slots (first_slots (c.vertex_count.ensures i)) (slots_of (c.deref.ensures.value i)))))

pub points_in-requires : goal.points_in-requires
points_in-requires c = subst (λ (p : List Point × List ℕ). All (IsBelow (length p.0)) p.1) (sym (λ i. (c.deref-5.ensures.value i, c.deref-4.ensures.value i)))
    (points_below c.args.mesh.now c.in_ok-met.met.slots c.in_ok-met.ensures.slots c.in_ok-order.order.slots.items (in_order c.args.mesh.now c.in_ok-met.met.slots c.in_ok-met.ensures.slots c.args.leaves.now c.in_ok-met.met.corners.items c.in_ok-met.ensures.corners c.in_ok-order.order.slots.items (c.in_ok-order.ensures.slots ∙ (λ i. with_slots (first_slots (c.vertex_count.ensures i)) (slots_of (c.deref.ensures.value i))))))

pub triples-requires-clause-inside : goal.triples-requires-clause-inside
triples-requires-clause-inside c = subst (λ (p : ℕ × List (List ℕ)). All (AreBelow p.0) p.1) (sym (λ i. ((c.in_ok-order.ensures.count ∙ c.count.ensures) i, c.deref-6.ensures.value i)))
    (corners_below (shape_of c.args.mesh.now) c.in_ok-met.met.slots.keys.items c.args.leaves.now c.in_ok-met.met.corners.items c.in_ok-met.ensures.corners)

pub returns-clause-numbers : goal.returns-clause-numbers
returns-clause-numbers c =
    let mesh = c.args.mesh.now in
    let slots = c.in_ok-met.met.slots in
    let are = c.in_ok-met.ensures.slots in
    let order = c.in_ok-order.order.slots.items in
    record {
      keys = subst (All (IsKeyOf mesh)) (sym (c.in_ok-keys.ensures ∙ (λ i. map (key_in (c.deref-3.ensures.value i)) (c.deref-2.ensures.value i)))) (keys_right mesh slots are order (in_order c.args.mesh.now c.in_ok-met.met.slots c.in_ok-met.ensures.slots c.args.leaves.now c.in_ok-met.met.corners.items c.in_ok-met.ensures.corners c.in_ok-order.order.slots.items (c.in_ok-order.ensures.slots ∙ (λ i. with_slots (first_slots (c.vertex_count.ensures i)) (slots_of (c.deref.ensures.value i))))));
      below = in_order c.args.mesh.now c.in_ok-met.met.slots c.in_ok-met.ensures.slots c.args.leaves.now c.in_ok-met.met.corners.items c.in_ok-met.ensures.corners c.in_ok-order.order.slots.items (c.in_ok-order.ensures.slots ∙ (λ i. with_slots (first_slots (c.vertex_count.ensures i)) (slots_of (c.deref.ensures.value i))));
      slots = c.in_ok-keys.ensures ∙ (λ i. map (key_in (c.deref-3.ensures.value i)) (c.deref-2.ensures.value i));
      points = c.in_ok-points.ensures ∙ (λ i. map (point_in (c.deref-5.ensures.value i)) (c.deref-4.ensures.value i)) ∙ points_moved mesh slots are order (in_order c.args.mesh.now c.in_ok-met.met.slots c.in_ok-met.ensures.slots c.args.leaves.now c.in_ok-met.met.corners.items c.in_ok-met.ensures.corners c.in_ok-order.order.slots.items (c.in_ok-order.ensures.slots ∙ (λ i. with_slots (first_slots (c.vertex_count.ensures i)) (slots_of (c.deref.ensures.value i))))) ∙ ap (map (point mesh.vertices)) (written_moved c.args.mesh.now c.in_ok-met.met.slots c.in_ok-met.ensures.slots c.args.leaves.now c.in_ok-met.met.corners.items c.in_ok-met.ensures.corners c.in_ok-order.order.slots.items (c.in_ok-order.ensures.slots ∙ (λ i. with_slots (first_slots (c.vertex_count.ensures i)) (slots_of (c.deref.ensures.value i)))));
      triples = c.in_ok-triples.ensures ∙ ap (map (numbered order)) c.deref-6.ensures.value
          ∙ triples_moved mesh slots are c.args.leaves.now c.in_ok-met.met.corners.items c.in_ok-met.ensures.corners order (c.in_ok-order.ensures.slots ∙ (λ i. with_slots (first_slots (c.vertex_count.ensures i)) (slots_of (c.deref.ensures.value i))));
      labels = c.in_ok-met.ensures.labels;
    }

pub returns-clause-written : goal.returns-clause-written
returns-clause-written c =
    let mesh = c.args.mesh.now in
    let slots = c.in_ok-met.met.slots in
    ap (map (vertex_of (shape_of mesh))) (c.in_ok-keys.ensures ∙ (λ i. map (key_in (c.deref-3.ensures.value i)) (c.deref-2.ensures.value i)))
    ∙ keys_moved mesh slots c.in_ok-met.ensures.slots c.in_ok-order.order.slots.items ∙ written_moved c.args.mesh.now c.in_ok-met.met.slots c.in_ok-met.ensures.slots c.args.leaves.now c.in_ok-met.met.corners.items c.in_ok-met.ensures.corners c.in_ok-order.order.slots.items (c.in_ok-order.ensures.slots ∙ (λ i. with_slots (first_slots (c.vertex_count.ensures i)) (slots_of (c.deref.ensures.value i))))
