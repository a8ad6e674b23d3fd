use Rattle.mesh_names.proofs.Worked.{square_second_round}
use Rattle.mesh_names.proofs.laws.square_second_round.Goals as goal

pub returns : goal.returns
returns c = square_second_round
