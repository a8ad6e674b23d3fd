use Rattle.std.proofs.Common.{◌+◌, ◌-◌, ◌*◌, length}
use Rattle.table_passes.proofs.late.+late.Given as goal

abbrev pub decreases-late_halves-join_mut+arg2 : goal.decreases-late_halves-join_mut+arg2
decreases-late_halves-join_mut+arg2 g l = 3 * length l.left.now + 1

abbrev pub decreases-late_halves-join_mut+arg3 : goal.decreases-late_halves-join_mut+arg3
decreases-late_halves-join_mut+arg3 g l = 3 * length l.right.now + 1

abbrev pub decreases-late_halves : goal.decreases-late_halves
decreases-late_halves g l = 3 * (length l.left.now + length l.right.now) - 1

abbrev pub decreases-late_nested : goal.decreases-late_nested
decreases-late_nested g l = 3 * length l.tasks.now
