use Rattle.written_meshes.proofs.RenamedRows.{set_values_stand}
use Rattle.written_meshes.proofs.laws.set_values_stand.Goals as goal

pub returns : goal.returns
returns c = set_values_stand
