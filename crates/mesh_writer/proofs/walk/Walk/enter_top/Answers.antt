use Rattle.std.proofs.Common.{◌∙◌, ap, refl}
use Rattle.mesh_names.specs.Triangles.{triple_of}
use Rattle.compat_check.specs.Meshes.{shape_of}
use Rattle.mesh_writer.proofs.Walking.{top_corners}
use Rattle.mesh_writer.proofs.walk.Walk.enter_top.Goals as goal

pub put-requires-clause-corners : goal.put-requires-clause-corners
put-requires-clause-corners c = top_corners c.args.mesh.now c.args.self.now.slots c.args.name c.args.name c.triangle.result c.requires.walk.slots c.element_count-count.ensures.checked c.requires.name.rooted c.requires.top refl
    (c.triangle.ensures ∙ ap (triple_of (shape_of c.args.mesh.now)) c.root.ensures.root)
