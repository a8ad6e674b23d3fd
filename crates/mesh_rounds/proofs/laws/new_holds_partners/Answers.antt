use Rattle.mesh_rounds.proofs.RoundForests.{new_holds_partners}
use Rattle.mesh_rounds.proofs.laws.new_holds_partners.Goals as goal

pub returns : goal.returns
returns c = new_holds_partners
