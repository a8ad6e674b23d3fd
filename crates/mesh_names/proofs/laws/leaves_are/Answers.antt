use Rattle.mesh_names.proofs.Leaving.{leaves_are}
use Rattle.mesh_names.proofs.laws.leaves_are.Goals as goal

pub returns : goal.returns
returns c = leaves_are
