use Rattle.mesh_names.proofs.Only.{partner_is_only}
use Rattle.mesh_names.proofs.laws.partner_is_only.Goals as goal

pub returns : goal.returns
returns c = partner_is_only
