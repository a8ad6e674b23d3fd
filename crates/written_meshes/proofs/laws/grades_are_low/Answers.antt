use Rattle.written_meshes.proofs.Renaming.{grades_are_low}
use Rattle.written_meshes.proofs.laws.grades_are_low.Goals as goal

pub returns : goal.returns
returns c = grades_are_low
