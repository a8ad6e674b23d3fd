use Rattle.std.proofs.Common.{◌-◌, ◌≤◌}
use Rattle.bench_locate.proofs.rival.Cells.for_leaves.Given as goal

abbrev pub invariant-loop-across : goal.invariant-loop-across
invariant-loop-across l = 1 ≤ l.across

abbrev pub decreases-loop-across : goal.decreases-loop-across
decreases-loop-across l = 4096 - l.across
