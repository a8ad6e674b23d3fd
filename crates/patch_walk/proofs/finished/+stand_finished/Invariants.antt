use Rattle.compat_check.specs.Meshes.{shape_of}
use Rattle.mesh_names.specs.Triangles.{level}
use Rattle.patch_walk.proofs.finished.+stand_finished.Given as goal

abbrev pub decreases-stand_finished : goal.decreases-stand_finished
decreases-stand_finished l = level (shape_of l.table.now.site.mesh.now) l.name
