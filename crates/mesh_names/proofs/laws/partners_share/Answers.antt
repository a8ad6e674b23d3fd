use Rattle.mesh_names.proofs.Partners.{partners_share}
use Rattle.mesh_names.proofs.laws.partners_share.Goals as goal

pub returns : goal.returns
returns c = partners_share
