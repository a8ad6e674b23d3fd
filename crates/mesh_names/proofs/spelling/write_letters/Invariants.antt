use Rattle.std.proofs.Common.{length}
use Rattle.mesh_names.proofs.SpelledNames.{HasTaken}
use Rattle.mesh_names.proofs.spelling.write_letters.Given as goal

abbrev pub invariant-loop-parent : goal.invariant-loop-parent
invariant-loop-parent l = HasTaken l.fn.name.1 l.rest.1 l.room l.at

abbrev pub decreases-loop-parent : goal.decreases-loop-parent
decreases-loop-parent l = length l.rest.1
