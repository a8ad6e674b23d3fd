use Rattle.mesh_names.proofs.Coarsening.{coarsened_once}
use Rattle.mesh_names.proofs.laws.coarsened_once.Goals as goal

pub returns : goal.returns
returns c = coarsened_once
