use Rattle.soak.proofs.GridTexts.{grids_pass}
use Rattle.soak.proofs.laws.grids_pass.Goals as goal

pub returns : goal.returns
returns c = grids_pass
