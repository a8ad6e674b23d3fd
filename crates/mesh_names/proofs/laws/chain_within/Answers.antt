use Rattle.mesh_names.proofs.Chains.{chain_within}
use Rattle.mesh_names.proofs.laws.chain_within.Goals as goal

pub returns : goal.returns
returns c = chain_within
