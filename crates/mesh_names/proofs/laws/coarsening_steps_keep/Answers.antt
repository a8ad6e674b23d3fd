use Rattle.mesh_names.proofs.Steps.{steps_keep}
use Rattle.mesh_names.proofs.laws.coarsening_steps_keep.Goals as goal

pub returns : goal.returns
returns c = steps_keep
