use Rattle.std.proofs.Common.{sym}
use Rattle.compat_check.specs.Meshes.{shape_of}
use Rattle.mesh_rounds.specs.State.{with_values}
use Rattle.mesh_rounds.proofs.Belonging.{belongs-state}
use Rattle.mesh_rounds.proofs.Texts.{can-write, leaves-listed}
use Rattle.mesh_rounds.proofs.adaptive.AdaptiveMesh.text.Goals as goal

pub mesh_text-requires-clause-vertex_values : goal.mesh_text-requires-clause-vertex_values
mesh_text-requires-clause-vertex_values g c κs within =
    let it = c.args.self.now in
    let seen = g.F.Forest.seen it.forest in
    let state = with_values seen.members it.values in
    (can-write it.mesh.now c.element_count-checked.ensures.checked state (belongs-state it.mesh.now state (it.state c.if-self.false)) c.deref.result.now
    (leaves-listed seen.mesh (shape_of it.mesh.now) seen.members c.in-Ok.leaves.items c.deref.result.now it.shape (sym c.deref.ensures.value) c.in-Ok.ensures.ok)).vertices

pub mesh_text-requires-clause-element_values : goal.mesh_text-requires-clause-element_values
mesh_text-requires-clause-element_values g c κs within =
    let it = c.args.self.now in
    let seen = g.F.Forest.seen it.forest in
    let state = with_values seen.members it.values in
    (can-write it.mesh.now c.element_count-checked.ensures.checked state (belongs-state it.mesh.now state (it.state c.if-self.false)) c.deref.result.now
    (leaves-listed seen.mesh (shape_of it.mesh.now) seen.members c.in-Ok.leaves.items c.deref.result.now it.shape (sym c.deref.ensures.value) c.in-Ok.ensures.ok)).elements
