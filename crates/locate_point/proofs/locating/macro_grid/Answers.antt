use Rattle.std.proofs.Common.{◌∙◌}
use Rattle.locate_point.proofs.Tops.{tops-rooted}
use Rattle.locate_point.proofs.locating.macro_grid.Goals as goal

pub grid_of-requires : goal.grid_of-requires
grid_of-requires c = tops-rooted c.args.mesh.now c.deref.result.now (c.deref.ensures.value ∙ c.in_ok-names.ensures)
