use Rattle.std.proofs.Common.{◌+◌, ◌-◌, ◌*◌, length}
use Rattle.table_passes.proofs.tasks.+works.Given as goal

abbrev pub decreases-work_halves-join_mut+arg2 : goal.decreases-work_halves-join_mut+arg2
decreases-work_halves-join_mut+arg2 g l = 3 * length l.left.now + 1

abbrev pub decreases-work_halves-join_mut+arg3 : goal.decreases-work_halves-join_mut+arg3
decreases-work_halves-join_mut+arg3 g l = 3 * length l.right.now + 1

abbrev pub decreases-work_halves : goal.decreases-work_halves
decreases-work_halves g l = 3 * (length l.left.now + length l.right.now) - 1

abbrev pub decreases-work_nested : goal.decreases-work_nested
decreases-work_nested g l = 3 * length l.tasks.now
