use Rattle.soak.proofs.GridPlaces.{grids_are_grids}
use Rattle.soak.proofs.laws.grids_are_grids.Goals as goal

pub returns : goal.returns
returns c = grids_are_grids
