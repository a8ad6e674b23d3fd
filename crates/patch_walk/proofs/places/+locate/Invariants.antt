use Rattle.compat_check.specs.Meshes.{shape_of}
use Rattle.mesh_names.specs.Triangles.{level}
use Rattle.patch_walk.proofs.places.+locate.Given as goal

abbrev pub decreases-locate : goal.decreases-locate
decreases-locate l = level (shape_of l.table.now.site.mesh.now) l.name
