use Rattle.locate_point.proofs.Tops.{leaves-rooted}
use Rattle.locate_point.proofs.locating.leaf_grid.Goals as goal

pub grid_of-requires : goal.grid_of-requires
grid_of-requires c = leaves-rooted c.args.mesh.now c.args.leaves.now c.requires
