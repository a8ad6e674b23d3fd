use Rattle.std.proofs.Common.{ℤ, Some, ap, ◌∙◌, w64, rules}
use Rattle.std.proofs.lemmas.Int.{to_z-of_z}
use Rattle.mesh_names.specs.Triangles.{triangle}
use Rattle.compat_check.specs.Meshes.{shape_of}
use Rattle.dof_transfer.proofs.NamedVertices.{Laws}
use Rattle.mesh_rounds.specs.Setting.{corner_at}
use Rattle.mesh_rounds.proofs.Corners.{vertex-takes}
use Rattle.mesh_rounds.proofs.setting.set_corner.Goals as goal

pub set_vertex-requires-clause-live : goal.set_vertex-requires-clause-live
set_vertex-requires-clause-live c = c.requires.live c.args.corner c.corner_key.result c.requires.corner c.corner_key.ensures

pub returns : goal.returns
returns c =
    let laws : Laws c.args.mesh.now = record { only = c.partner_is_only.ensures; pairs = c.partners_pair.ensures; tells = c.element_count-checked.ensures.tells } in
    vertex-takes c.args.mesh.now laws c.args.vertices.now c.set_vertex.new.self (corner_at (triangle (shape_of c.args.mesh.now) c.args.element) c.args.corner) c.corner_key.result c.args.number c.corner_key.ensures (c.requires.live c.args.corner c.corner_key.result c.requires.corner c.corner_key.ensures)
    (record { value = c.set_vertex.ensures.value ∙ ap (λ (z : ℤ). Some z) (to_z-of_z w64 c.args.number (search rules)); others = c.set_vertex.ensures.others; indices = c.set_vertex.ensures.indices; flags = c.set_vertex.ensures.flags })
