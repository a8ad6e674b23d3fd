use Rattle.std.proofs.Common.{◌+◌, ◌*◌}
use Rattle.compat_check.specs.Meshes.{shape_of}
use Rattle.mesh_names.specs.Triangles.{level}
use Rattle.patch_walk.proofs.climbs.+climbs.Given as goal

abbrev pub decreases-climb_to : goal.decreases-climb_to
decreases-climb_to l = 2 * level (shape_of l.table.now.site.mesh.now) l.name + 1

abbrev pub decreases-reach : goal.decreases-reach
decreases-reach l = 2 * level (shape_of l.table.now.site.mesh.now) l.name
