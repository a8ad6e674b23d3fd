use Rattle.mesh_rounds.proofs.OneRound.{rounds_end_at_one}
use Rattle.mesh_rounds.proofs.laws.rounds_end_at_one.Goals as goal

pub returns : goal.returns
returns c = rounds_end_at_one
