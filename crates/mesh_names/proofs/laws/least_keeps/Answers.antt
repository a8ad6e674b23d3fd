use Rattle.mesh_names.proofs.Closing.{least_keeps}
use Rattle.mesh_names.proofs.laws.least_keeps.Goals as goal

pub returns : goal.returns
returns c = least_keeps
