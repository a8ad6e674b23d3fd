use Rattle.mesh_names.proofs.Conforming.{conforms_by_partners}
use Rattle.mesh_names.proofs.laws.conforming_by_partners.Goals as goal

pub returns : goal.returns
returns c = conforms_by_partners
