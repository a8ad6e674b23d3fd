use Rattle.mesh_rounds.proofs.RoundForests.{new_is_forest}
use Rattle.mesh_rounds.proofs.laws.new_is_forest.Goals as goal

pub returns : goal.returns
returns c = new_is_forest
