use Rattle.mesh_names.proofs.Reaching.{least_by_chains}
use Rattle.mesh_names.proofs.laws.least_by_chains.Goals as goal

pub returns : goal.returns
returns c = least_by_chains
