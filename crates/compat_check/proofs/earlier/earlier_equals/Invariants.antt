use Rattle.compat_check.proofs.Links.{AreLinked}
use Rattle.compat_check.proofs.earlier.earlier_equals.Given as goal

abbrev pub invariant-loop-i : goal.invariant-loop-i
invariant-loop-i g l = AreLinked g.K.Ord.cmp l.keys l.ranked.items l.earlier.items l.i
