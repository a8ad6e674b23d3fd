use Rattle.mesh_names.proofs.Chains.{chains_stand}
use Rattle.mesh_names.proofs.laws.chains_stand.Goals as goal

pub returns : goal.returns
returns c = chains_stand
