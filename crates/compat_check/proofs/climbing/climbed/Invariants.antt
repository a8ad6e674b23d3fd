use Rattle.std.proofs.Common.{length}
use Rattle.compat_check.specs.Climbing.{Climbs}
use Rattle.compat_check.proofs.climbing.climbed.Given as goal

abbrev pub invariant-loop-parent : goal.invariant-loop-parent
invariant-loop-parent l = Climbs l.fn.name l.at

abbrev pub decreases-loop-parent : goal.decreases-loop-parent
decreases-loop-parent l = length l.at.1
