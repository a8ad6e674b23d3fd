use Rattle.mesh_names.proofs.Coarsening.{steps_can_end}
use Rattle.mesh_names.proofs.laws.coarsening_can_end.Goals as goal

pub returns : goal.returns
returns c = steps_can_end
