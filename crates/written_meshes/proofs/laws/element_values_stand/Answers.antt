use Rattle.written_meshes.proofs.RenamedValues.{element_values_stand}
use Rattle.written_meshes.proofs.laws.element_values_stand.Goals as goal

pub returns : goal.returns
returns c = element_values_stand
