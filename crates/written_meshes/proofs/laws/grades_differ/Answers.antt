use Rattle.written_meshes.proofs.Renaming.{grades_differ}
use Rattle.written_meshes.proofs.laws.grades_differ.Goals as goal

pub returns : goal.returns
returns c = grades_differ
