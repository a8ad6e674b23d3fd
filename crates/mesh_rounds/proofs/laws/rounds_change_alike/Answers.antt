use Rattle.mesh_rounds.proofs.OneRound.{rounds_change_alike}
use Rattle.mesh_rounds.proofs.laws.rounds_change_alike.Goals as goal

pub returns : goal.returns
returns c = rounds_change_alike
