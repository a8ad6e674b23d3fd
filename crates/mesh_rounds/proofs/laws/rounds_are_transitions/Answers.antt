use Rattle.mesh_rounds.proofs.RoundLaws.{rounds_are_transitions}
use Rattle.mesh_rounds.proofs.laws.rounds_are_transitions.Goals as goal

pub returns : goal.returns
returns c = rounds_are_transitions
