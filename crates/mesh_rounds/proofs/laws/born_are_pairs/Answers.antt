use Rattle.mesh_rounds.proofs.RoundLaws.{born_are_pairs}
use Rattle.mesh_rounds.proofs.laws.born_are_pairs.Goals as goal

pub returns : goal.returns
returns c = born_are_pairs
