use Rattle.compat_check.specs.Paired.{AreSides}
use Rattle.compat_check.proofs.edges.sides.Given as goal

abbrev pub invariant-loop-place : goal.invariant-loop-place
invariant-loop-place l = AreSides l.triples l.earlier l.sides.items l.place
