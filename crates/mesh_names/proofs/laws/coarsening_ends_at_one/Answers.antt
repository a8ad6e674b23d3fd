use Rattle.mesh_names.proofs.Coarsening.{steps_end_at_one}
use Rattle.mesh_names.proofs.laws.coarsening_ends_at_one.Goals as goal

pub returns : goal.returns
returns c = steps_end_at_one
