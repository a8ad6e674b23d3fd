use Rattle.compat_check.specs.Meshes.{shape_of}
use Rattle.mesh_names.specs.Triangles.{level}
use Rattle.patch_walk.proofs.pinned.+locate_pinned.Given as goal

abbrev pub decreases-locate_pinned : goal.decreases-locate_pinned
decreases-locate_pinned l = level (shape_of l.table.now.site.mesh.now) l.name
