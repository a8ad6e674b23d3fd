use Rattle.mesh_rounds.proofs.OneState.{next_is_one}
use Rattle.mesh_rounds.proofs.laws.next_is_one.Goals as goal

pub returns : goal.returns
returns c = next_is_one
