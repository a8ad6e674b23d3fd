use Rattle.std.proofs.Common.{refl}
use Rattle.locate_point.proofs.locator.Locator.new.Goals as goal

pub returns : goal.returns
returns c = record { of_mesh = refl; of_leaves = refl; leaves_are = c.requires; tenths = c.is_exact-exact.ensures.0; grid = c.in_ok-grid.ensures }
