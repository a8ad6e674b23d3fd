use Rattle.std.proofs.Common.{length}
use Rattle.mesh_writer.proofs.walk.Walk.+enter.Given as goal

abbrev pub decreases-enter : goal.decreases-enter
decreases-enter l = length l.name.1
