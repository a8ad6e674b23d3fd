use Rattle.std.proofs.Common.{◌∙◌, sym, ap}
use Rattle.mesh_names.specs.Patches.{vertex_of}
use Rattle.mesh_names.specs.declared.patch.VertexKey.{VertexKey}
use Rattle.compat_check.specs.Meshes.{shape_of}
use Rattle.compat_check.specs.Points.{point}
use Rattle.compat_check.proofs.Placing.{first_within, second_within, point_of_middle}
use Rattle.compat_check.proofs.mesh.MacroMesh.point.Goals as goal

pub middle_point-requires-clause-first : goal.middle_point-requires-clause-first
middle_point-requires-clause-first c = search (first_within)

pub middle_point-requires-clause-second : goal.middle_point-requires-clause-second
middle_point-requires-clause-second c = search (second_within)

pub returns-in-Patch : goal.returns-in-Patch
returns-in-Patch c =
    let mesh = c.args.self.now in
    point_of_middle mesh c.in-Patch.owner c.points.result c.middle_point.result c.points.ensures c.middle_point.ensures
    ∙ ap (λ (key : VertexKey). point mesh.vertices (vertex_of (shape_of mesh) key)) (sym c.in-Patch.is)
