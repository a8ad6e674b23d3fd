use Rattle.mesh_names.proofs.Needs.{needs_can_be_held}
use Rattle.mesh_names.proofs.laws.needs_can_be_held.Goals as goal

pub returns : goal.returns
returns c = needs_can_be_held
