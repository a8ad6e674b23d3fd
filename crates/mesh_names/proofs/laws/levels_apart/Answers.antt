use Rattle.mesh_names.proofs.Levels.{levels_apart}
use Rattle.mesh_names.proofs.laws.levels_apart.Goals as goal

pub returns : goal.returns
returns c = levels_apart
