use Rattle.mesh_mend.proofs.CutTexts.{grades_are_zero}
use Rattle.mesh_mend.proofs.laws.grades_are_zero.Goals as goal

pub returns : goal.returns
returns c = grades_are_zero
