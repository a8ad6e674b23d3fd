use Rattle.mesh_rounds.proofs.DiedPatches.{died_are_parents}
use Rattle.mesh_rounds.proofs.laws.died_are_parents.Goals as goal

pub returns : goal.returns
returns c = died_are_parents
