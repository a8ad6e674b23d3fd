use Rattle.compat_check.proofs.Ranks.{ArePaired}
use Rattle.compat_check.proofs.earlier.ranked.Given as goal

abbrev pub invariant-loop-i : goal.invariant-loop-i
invariant-loop-i g l = ArePaired l.keys l.entries.items l.i
