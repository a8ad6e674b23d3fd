use Rattle.mesh_rounds.proofs.RoundLaws.{rounds_are_changes}
use Rattle.mesh_rounds.proofs.laws.rounds_are_changes.Goals as goal

pub returns : goal.returns
returns c = rounds_are_changes
