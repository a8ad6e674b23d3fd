use Rattle.mesh_names.proofs.Marking.{marks_give_needs}
use Rattle.mesh_names.proofs.laws.marks_give_needs.Goals as goal

pub returns : goal.returns
returns c = marks_give_needs
