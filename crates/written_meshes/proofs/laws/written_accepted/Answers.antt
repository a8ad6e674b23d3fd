use Rattle.written_meshes.proofs.Reading.{written_accepted}
use Rattle.written_meshes.proofs.laws.written_accepted.Goals as goal

pub returns : goal.returns
returns c = written_accepted c.midpoints_exact.ensures c.written_is_read.ensures
