use Rattle.std.proofs.Common.{length}
use Rattle.compat_check.proofs.mesh.MacroMesh.+labels.Given as goal

abbrev pub decreases-labels : goal.decreases-labels
decreases-labels l = length l.name.1
