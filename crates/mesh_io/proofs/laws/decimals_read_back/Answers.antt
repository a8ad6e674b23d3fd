use Rattle.mesh_io.proofs.ReadingBack.{read_back}
use Rattle.mesh_io.proofs.laws.decimals_read_back.Goals as goal

pub returns : goal.returns
returns c = read_back
