use Rattle.mesh_rounds.proofs.RoundLaws.{born_are_low, born_are_rooted}
use Rattle.mesh_rounds.proofs.laws.born_are_of_mesh.Goals as goal

pub returns-clause-rooted : goal.returns-clause-rooted
returns-clause-rooted c = born_are_rooted

pub returns-clause-low : goal.returns-clause-low
returns-clause-low c = born_are_low
