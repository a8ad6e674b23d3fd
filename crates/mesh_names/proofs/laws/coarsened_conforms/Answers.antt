use Rattle.mesh_names.proofs.Coarsening.{coarsened_conforms}
use Rattle.mesh_names.proofs.laws.coarsened_conforms.Goals as goal

pub returns : goal.returns
returns c = coarsened_conforms
