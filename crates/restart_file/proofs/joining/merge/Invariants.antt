use Rattle.std.proofs.Common.{length, ◌-◌, ◌+◌, ◌≤◌}
use Rattle.restart_file.proofs.Merging.{IsUnder}
use Rattle.restart_file.proofs.joining.merge.Given as goal

abbrev pub invariant-loop-i : goal.invariant-loop-i
invariant-loop-i l = record { first_in : l.i ≤ length l.first; second_in : l.j ≤ length l.second; merged : IsUnder l.first l.second l.i l.j l.both.items }

abbrev pub decreases-loop-i : goal.decreases-loop-i
decreases-loop-i l = (length l.first - l.i) + (length l.second - l.j)
