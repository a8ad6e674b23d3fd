use Rattle.written_meshes.proofs.Renaming.{written_is_renaming}
use Rattle.written_meshes.proofs.laws.written_is_renaming.Goals as goal

pub returns : goal.returns
returns c = written_is_renaming
