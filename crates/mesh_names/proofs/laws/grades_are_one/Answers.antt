use Rattle.mesh_names.proofs.Grades.{grades_are_one}
use Rattle.mesh_names.proofs.laws.grades_are_one.Goals as goal

pub returns : goal.returns
returns c = grades_are_one
