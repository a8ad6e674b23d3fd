use Rattle.mesh_names.proofs.Pairs.{partners_pair}
use Rattle.mesh_names.proofs.laws.partners_pair.Goals as goal

pub returns : goal.returns
returns c = partners_pair
