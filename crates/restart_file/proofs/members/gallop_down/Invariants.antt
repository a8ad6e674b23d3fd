use Rattle.std.proofs.Common.{◌≤◌}
use Rattle.restart_file.proofs.members.gallop_down.Given as goal

abbrev pub invariant-loop-name : goal.invariant-loop-name
invariant-loop-name l = (l.low ≤ l.near)

abbrev pub decreases-loop-name : goal.decreases-loop-name
decreases-loop-name l = l.low
