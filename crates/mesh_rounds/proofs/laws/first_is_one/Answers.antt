use Rattle.mesh_rounds.proofs.OneState.{first_is_one}
use Rattle.mesh_rounds.proofs.laws.first_is_one.Goals as goal

pub returns : goal.returns
returns c = first_is_one
