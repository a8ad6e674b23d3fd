use Rattle.mesh_names.proofs.Needs.{needs_are}
use Rattle.mesh_names.proofs.laws.needs_are.Goals as goal

pub returns : goal.returns
returns c = needs_are
