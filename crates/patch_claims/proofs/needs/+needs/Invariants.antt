use Rattle.std.proofs.Common.{◌+◌, ◌*◌}
use Rattle.compat_check.specs.Meshes.{shape_of}
use Rattle.mesh_names.specs.Triangles.{level}
use Rattle.patch_claims.proofs.needs.+needs.Given as goal

abbrev pub decreases-make_bisected : goal.decreases-make_bisected
decreases-make_bisected g l = 3 * level (shape_of l.table.now.site.mesh.now) l.name + 2

abbrev pub decreases-stand : goal.decreases-stand
decreases-stand g l = 3 * level (shape_of l.table.now.site.mesh.now) l.name + 1

abbrev pub decreases-stand_above : goal.decreases-stand_above
decreases-stand_above g l = 3 * level (shape_of l.table.now.site.mesh.now) l.name
