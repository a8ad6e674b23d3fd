use Rattle.written_meshes.proofs.ReadAgain.{read_again_is_written}
use Rattle.written_meshes.proofs.laws.read_again_is_written.Goals as goal

pub returns : goal.returns
returns c = read_again_is_written
