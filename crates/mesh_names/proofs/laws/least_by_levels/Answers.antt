use Rattle.mesh_names.proofs.Closing.{least_by_levels}
use Rattle.mesh_names.proofs.laws.least_by_levels.Goals as goal

pub returns : goal.returns
returns c = least_by_levels
