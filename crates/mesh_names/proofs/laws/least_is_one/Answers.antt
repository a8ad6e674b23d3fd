use Rattle.mesh_names.proofs.Closing.{least_is_one}
use Rattle.mesh_names.proofs.laws.least_is_one.Goals as goal

pub returns : goal.returns
returns c = least_is_one
