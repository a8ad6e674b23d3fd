use Rattle.std.proofs.Common.{◌∙◌, ap, refl}
use Rattle.mesh_names.specs.Triangles.{triple_of}
use Rattle.compat_check.specs.Meshes.{shape_of}
use Rattle.mesh_writer.proofs.Walking.{top_corners}
use Rattle.mesh_writer.proofs.walk.Walk.leaf.Goals as goal

pub returns-in_default-clause-corners : goal.returns-in_default-clause-corners
returns-in_default-clause-corners c = top_corners c.args.mesh.now c.args.self.now.slots c.args.name c.args.name c.triangle.result c.requires.walk.slots c.element_count-count.ensures.checked c.requires.name.rooted c.in_default.ensures refl
    (c.triangle.ensures ∙ ap (triple_of (shape_of c.args.mesh.now)) c.root.ensures.root)
