use Rattle.std.proofs.Common.{List, sym, ◌∙◌, subst}
use Rattle.mesh_names.specs.declared.rows.MarkRow.{MarkRow}
use Rattle.compat_check.specs.Meshes.{shape_of}
use Rattle.forest_plain.specs.AnyForest.{room_in}
use Rattle.mesh_rounds.specs.State.{with_values}
use Rattle.mesh_rounds.specs.Taking.{LeavesSet, VerticesSet}
use Rattle.mesh_rounds.proofs.Rounding.{can-follow, fine-of, laws-of, listed-as, next-state, round-as, rounded}
use Rattle.mesh_rounds.proofs.States.{every-corner, every-leaf, list-corners, list-in-mesh, list-live, rows-corners, rows-live}
use Rattle.mesh_rounds.proofs.round.round.Goals as goal

pub set-requires-clause-leaves : goal.set-requires-clause-leaves
set-requires-clause-leaves g c =
    list-live c.args.mesh.now (laws-of c.args.mesh.now c.element_count-checked.ensures.checked) c.element_count-checked.ensures.checked (with_values (g.F.Forest.seen c.args.forest.now).members c.args.values.now) c.requires.state c.deref-3.result.now c.deref-2.result.now (listed-as (g.F.Forest.seen c.args.forest.now).mesh (shape_of c.args.mesh.now) (g.F.Forest.seen c.args.forest.now).members c.deref.result.now c.deref-3.result.now c.in_ok-leaves.leaves.items c.deref-2.result.now c.requires.mesh (c.deref.ensures.value ∙ sym c.deref-3.ensures.value) (sym c.deref-2.ensures.value) c.in_ok-leaves.ensures.listed)

pub set-requires-clause-live : goal.set-requires-clause-live
set-requires-clause-live g c =
    rows-live c.args.mesh.now (laws-of c.args.mesh.now c.element_count-checked.ensures.checked) c.element_count-checked.ensures.checked (with_values (g.F.Forest.seen c.args.forest.now).members c.args.values.now) c.requires.state c.deref-3.result.now c.deref-2.result.now (listed-as (g.F.Forest.seen c.args.forest.now).mesh (shape_of c.args.mesh.now) (g.F.Forest.seen c.args.forest.now).members c.deref.result.now c.deref-3.result.now c.in_ok-leaves.leaves.items c.deref-2.result.now c.requires.mesh (c.deref.ensures.value ∙ sym c.deref-3.ensures.value) (sym c.deref-2.ensures.value) c.in_ok-leaves.ensures.listed) (fine-of c.args.mesh.now (g.F.Forest.seen c.args.forest.now) (g.F.Forest.seen c.listed_leaves.new.forest) (g.F.Forest.seen c.round.new.self) (g.F.Forest.kept c.round.new.self) c.args.marks.now.rows.items c.deref-3.result.now c.in_ok-delta.delta c.deref-3.ensures.value c.listed_leaves.ensures.unchanged c.requires.mesh c.requires.sides c.in_ok-delta.ensures.ok)

pub set-requires-clause-every : goal.set-requires-clause-every
set-requires-clause-every g c =
    every-leaf c.args.mesh.now (laws-of c.args.mesh.now c.element_count-checked.ensures.checked) c.element_count-checked.ensures.checked (with_values (g.F.Forest.seen c.args.forest.now).members c.args.values.now) c.requires.state c.deref-3.result.now c.deref-2.result.now (listed-as (g.F.Forest.seen c.args.forest.now).mesh (shape_of c.args.mesh.now) (g.F.Forest.seen c.args.forest.now).members c.deref.result.now c.deref-3.result.now c.in_ok-leaves.leaves.items c.deref-2.result.now c.requires.mesh (c.deref.ensures.value ∙ sym c.deref-3.ensures.value) (sym c.deref-2.ensures.value) c.in_ok-leaves.ensures.listed)

pub set-requires-clause-mesh : goal.set-requires-clause-mesh
set-requires-clause-mesh g c =
    list-in-mesh c.args.mesh.now (laws-of c.args.mesh.now c.element_count-checked.ensures.checked) c.element_count-checked.ensures.checked (with_values (g.F.Forest.seen c.args.forest.now).members c.args.values.now) c.requires.state c.deref-3.result.now c.deref-2.result.now (listed-as (g.F.Forest.seen c.args.forest.now).mesh (shape_of c.args.mesh.now) (g.F.Forest.seen c.args.forest.now).members c.deref.result.now c.deref-3.result.now c.in_ok-leaves.leaves.items c.deref-2.result.now c.requires.mesh (c.deref.ensures.value ∙ sym c.deref-3.ensures.value) (sym c.deref-2.ensures.value) c.in_ok-leaves.ensures.listed)

pub set-requires-clause-corners : goal.set-requires-clause-corners
set-requires-clause-corners g c =
    list-corners c.args.mesh.now (laws-of c.args.mesh.now c.element_count-checked.ensures.checked) c.element_count-checked.ensures.checked (with_values (g.F.Forest.seen c.args.forest.now).members c.args.values.now) c.requires.state c.deref-3.result.now c.deref-2.result.now (listed-as (g.F.Forest.seen c.args.forest.now).mesh (shape_of c.args.mesh.now) (g.F.Forest.seen c.args.forest.now).members c.deref.result.now c.deref-3.result.now c.in_ok-leaves.leaves.items c.deref-2.result.now c.requires.mesh (c.deref.ensures.value ∙ sym c.deref-3.ensures.value) (sym c.deref-2.ensures.value) c.in_ok-leaves.ensures.listed)

pub set-requires-clause-live_corners : goal.set-requires-clause-live_corners
set-requires-clause-live_corners g c =
    rows-corners c.args.mesh.now (laws-of c.args.mesh.now c.element_count-checked.ensures.checked) c.element_count-checked.ensures.checked (with_values (g.F.Forest.seen c.args.forest.now).members c.args.values.now) c.requires.state c.deref-3.result.now c.deref-2.result.now (listed-as (g.F.Forest.seen c.args.forest.now).mesh (shape_of c.args.mesh.now) (g.F.Forest.seen c.args.forest.now).members c.deref.result.now c.deref-3.result.now c.in_ok-leaves.leaves.items c.deref-2.result.now c.requires.mesh (c.deref.ensures.value ∙ sym c.deref-3.ensures.value) (sym c.deref-2.ensures.value) c.in_ok-leaves.ensures.listed) (fine-of c.args.mesh.now (g.F.Forest.seen c.args.forest.now) (g.F.Forest.seen c.listed_leaves.new.forest) (g.F.Forest.seen c.round.new.self) (g.F.Forest.kept c.round.new.self) c.args.marks.now.rows.items c.deref-3.result.now c.in_ok-delta.delta c.deref-3.ensures.value c.listed_leaves.ensures.unchanged c.requires.mesh c.requires.sides c.in_ok-delta.ensures.ok)

pub set-requires-clause-every_corner : goal.set-requires-clause-every_corner
set-requires-clause-every_corner g c =
    every-corner c.args.mesh.now (laws-of c.args.mesh.now c.element_count-checked.ensures.checked) c.element_count-checked.ensures.checked (with_values (g.F.Forest.seen c.args.forest.now).members c.args.values.now) c.requires.state c.deref-3.result.now c.deref-2.result.now (listed-as (g.F.Forest.seen c.args.forest.now).mesh (shape_of c.args.mesh.now) (g.F.Forest.seen c.args.forest.now).members c.deref.result.now c.deref-3.result.now c.in_ok-leaves.leaves.items c.deref-2.result.now c.requires.mesh (c.deref.ensures.value ∙ sym c.deref-3.ensures.value) (sym c.deref-2.ensures.value) c.in_ok-leaves.ensures.listed) (fine-of c.args.mesh.now (g.F.Forest.seen c.args.forest.now) (g.F.Forest.seen c.listed_leaves.new.forest) (g.F.Forest.seen c.round.new.self) (g.F.Forest.kept c.round.new.self) c.args.marks.now.rows.items c.deref-3.result.now c.in_ok-delta.delta c.deref-3.ensures.value c.listed_leaves.ensures.unchanged c.requires.mesh c.requires.sides c.in_ok-delta.ensures.ok)

pub follow-requires-clause-pairs : goal.follow-requires-clause-pairs
follow-requires-clause-pairs g c =
    (can-follow c.args.mesh.now c.element_count-checked.ensures.checked (with_values (g.F.Forest.seen c.args.forest.now).members c.args.values.now) c.requires.state (room_in (g.F.Forest.seen c.args.forest.now) (g.F.Forest.kept c.round.new.self)) c.args.marks.now.rows.items (g.F.Forest.seen c.round.new.self).members c.in_ok-delta.delta (round-as c.args.mesh.now (g.F.Forest.seen c.args.forest.now) (g.F.Forest.seen c.listed_leaves.new.forest) (g.F.Forest.seen c.round.new.self) (g.F.Forest.kept c.round.new.self) c.args.marks.now.rows.items c.in_ok-delta.delta c.listed_leaves.ensures.unchanged c.requires.mesh c.requires.sides c.in_ok-delta.ensures.ok)).pairs

pub follow-requires-clause-rooted : goal.follow-requires-clause-rooted
follow-requires-clause-rooted g c =
    (can-follow c.args.mesh.now c.element_count-checked.ensures.checked (with_values (g.F.Forest.seen c.args.forest.now).members c.args.values.now) c.requires.state (room_in (g.F.Forest.seen c.args.forest.now) (g.F.Forest.kept c.round.new.self)) c.args.marks.now.rows.items (g.F.Forest.seen c.round.new.self).members c.in_ok-delta.delta (round-as c.args.mesh.now (g.F.Forest.seen c.args.forest.now) (g.F.Forest.seen c.listed_leaves.new.forest) (g.F.Forest.seen c.round.new.self) (g.F.Forest.kept c.round.new.self) c.args.marks.now.rows.items c.in_ok-delta.delta c.listed_leaves.ensures.unchanged c.requires.mesh c.requires.sides c.in_ok-delta.ensures.ok)).rooted

pub follow-requires-clause-low : goal.follow-requires-clause-low
follow-requires-clause-low g c =
    (can-follow c.args.mesh.now c.element_count-checked.ensures.checked (with_values (g.F.Forest.seen c.args.forest.now).members c.args.values.now) c.requires.state (room_in (g.F.Forest.seen c.args.forest.now) (g.F.Forest.kept c.round.new.self)) c.args.marks.now.rows.items (g.F.Forest.seen c.round.new.self).members c.in_ok-delta.delta (round-as c.args.mesh.now (g.F.Forest.seen c.args.forest.now) (g.F.Forest.seen c.listed_leaves.new.forest) (g.F.Forest.seen c.round.new.self) (g.F.Forest.kept c.round.new.self) c.args.marks.now.rows.items c.in_ok-delta.delta c.listed_leaves.ensures.unchanged c.requires.mesh c.requires.sides c.in_ok-delta.ensures.ok)).low

pub follow-requires-clause-parents : goal.follow-requires-clause-parents
follow-requires-clause-parents g c =
    (can-follow c.args.mesh.now c.element_count-checked.ensures.checked (with_values (g.F.Forest.seen c.args.forest.now).members c.args.values.now) c.requires.state (room_in (g.F.Forest.seen c.args.forest.now) (g.F.Forest.kept c.round.new.self)) c.args.marks.now.rows.items (g.F.Forest.seen c.round.new.self).members c.in_ok-delta.delta (round-as c.args.mesh.now (g.F.Forest.seen c.args.forest.now) (g.F.Forest.seen c.listed_leaves.new.forest) (g.F.Forest.seen c.round.new.self) (g.F.Forest.kept c.round.new.self) c.args.marks.now.rows.items c.in_ok-delta.delta c.listed_leaves.ensures.unchanged c.requires.mesh c.requires.sides c.in_ok-delta.ensures.ok)).parents

pub returns-in-Ok-clause-ok : goal.returns-in-Ok-clause-ok
returns-in-Ok-clause-ok g c =
    rounded c.args.mesh.now c.element_count-checked.ensures.checked (with_values (g.F.Forest.seen c.args.forest.now).members c.args.values.now) c.requires.state (room_in (g.F.Forest.seen c.args.forest.now) (g.F.Forest.kept c.round.new.self)) c.args.marks.now.rows.items (g.F.Forest.seen c.round.new.self).members c.in_ok-delta.delta (round-as c.args.mesh.now (g.F.Forest.seen c.args.forest.now) (g.F.Forest.seen c.listed_leaves.new.forest) (g.F.Forest.seen c.round.new.self) (g.F.Forest.kept c.round.new.self) c.args.marks.now.rows.items c.in_ok-delta.delta c.listed_leaves.ensures.unchanged c.requires.mesh c.requires.sides c.in_ok-delta.ensures.ok) c.deref-2.result.now (listed-as (g.F.Forest.seen c.args.forest.now).mesh (shape_of c.args.mesh.now) (g.F.Forest.seen c.args.forest.now).members c.deref.result.now c.args.marks.now.rows.items c.in_ok-leaves.leaves.items c.deref-2.result.now c.requires.mesh c.deref.ensures.value (sym c.deref-2.ensures.value) c.in_ok-leaves.ensures.listed) c.set.new.self (subst (λ (r : List MarkRow). LeavesSet c.deref-2.result.now r c.args.values.now.elements c.set.new.self.elements) c.deref-3.ensures.value c.set.ensures.elements) (subst (λ (r : List MarkRow). VerticesSet c.args.mesh.now c.deref-2.result.now r c.args.values.now.vertices c.set.new.self.vertices) c.deref-3.ensures.value c.set.ensures.vertices) c.follow.new.self (c.in-Ok.ensures.vertices (g.F.Forest.seen c.args.forest.now).members (g.F.Forest.seen c.round.new.self).members) (c.in-Ok.ensures.elements (g.F.Forest.seen c.args.forest.now).members (g.F.Forest.seen c.round.new.self).members)

pub returns-in-Ok-clause-state : goal.returns-in-Ok-clause-state
returns-in-Ok-clause-state g c =
    next-state c.args.mesh.now c.element_count-checked.ensures.checked (with_values (g.F.Forest.seen c.args.forest.now).members c.args.values.now) c.requires.state (room_in (g.F.Forest.seen c.args.forest.now) (g.F.Forest.kept c.round.new.self)) c.args.marks.now.rows.items (g.F.Forest.seen c.round.new.self).members c.in_ok-delta.delta (round-as c.args.mesh.now (g.F.Forest.seen c.args.forest.now) (g.F.Forest.seen c.listed_leaves.new.forest) (g.F.Forest.seen c.round.new.self) (g.F.Forest.kept c.round.new.self) c.args.marks.now.rows.items c.in_ok-delta.delta c.listed_leaves.ensures.unchanged c.requires.mesh c.requires.sides c.in_ok-delta.ensures.ok) c.deref-2.result.now (listed-as (g.F.Forest.seen c.args.forest.now).mesh (shape_of c.args.mesh.now) (g.F.Forest.seen c.args.forest.now).members c.deref.result.now c.args.marks.now.rows.items c.in_ok-leaves.leaves.items c.deref-2.result.now c.requires.mesh c.deref.ensures.value (sym c.deref-2.ensures.value) c.in_ok-leaves.ensures.listed) c.set.new.self (subst (λ (r : List MarkRow). LeavesSet c.deref-2.result.now r c.args.values.now.elements c.set.new.self.elements) c.deref-3.ensures.value c.set.ensures.elements) (subst (λ (r : List MarkRow). VerticesSet c.args.mesh.now c.deref-2.result.now r c.args.values.now.vertices c.set.new.self.vertices) c.deref-3.ensures.value c.set.ensures.vertices) c.follow.new.self (c.in-Ok.ensures.vertices (g.F.Forest.seen c.args.forest.now).members (g.F.Forest.seen c.round.new.self).members) (c.in-Ok.ensures.elements (g.F.Forest.seen c.args.forest.now).members (g.F.Forest.seen c.round.new.self).members)
