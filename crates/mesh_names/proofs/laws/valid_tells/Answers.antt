use Rattle.mesh_names.proofs.Neighbours.{valid_tells}
use Rattle.mesh_names.proofs.laws.valid_tells.Goals as goal

pub returns : goal.returns
returns c = valid_tells
