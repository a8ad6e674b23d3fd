use Rattle.written_meshes.proofs.Passing.{written_passes}
use Rattle.written_meshes.proofs.laws.written_passes.Goals as goal

pub returns : goal.returns
returns c = written_passes
