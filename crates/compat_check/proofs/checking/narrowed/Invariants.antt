use Rattle.std.proofs.Common.{◌≡◌, take}
use Rattle.compat_check.proofs.checking.narrowed.Given as goal

abbrev pub invariant-loop-grade : goal.invariant-loop-grade
invariant-loop-grade l = l.low.items ≡ take l.grade-index l.grades
