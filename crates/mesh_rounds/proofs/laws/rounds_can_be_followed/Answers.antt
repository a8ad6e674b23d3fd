use Rattle.mesh_rounds.proofs.RoundLaws.{rounds_can_be_followed}
use Rattle.mesh_rounds.proofs.laws.rounds_can_be_followed.Goals as goal

pub returns : goal.returns
returns c = rounds_can_be_followed
