use Rattle.mesh_names.proofs.CoarseningWorked.{square_coarsened}
use Rattle.mesh_names.proofs.laws.square_coarsened.Goals as goal

pub returns : goal.returns
returns c = square_coarsened
