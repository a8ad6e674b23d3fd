use Rattle.mesh_names.proofs.Steps.{steps_swap}
use Rattle.mesh_names.proofs.laws.coarsening_steps_swap.Goals as goal

pub returns : goal.returns
returns c = steps_swap
