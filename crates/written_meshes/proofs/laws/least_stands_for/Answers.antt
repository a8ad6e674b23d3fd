use Rattle.written_meshes.proofs.RenamedLeast.{least_stands_for}
use Rattle.written_meshes.proofs.laws.least_stands_for.Goals as goal

pub returns : goal.returns
returns c = least_stands_for
