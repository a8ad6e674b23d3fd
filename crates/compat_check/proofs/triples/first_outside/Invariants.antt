use Rattle.std.proofs.Common.{ℕ, ◌<◌}
use Rattle.compat_check.specs.Faults.{IsOutside, triple_in}
use Rattle.compat_check.proofs.triples.first_outside.Given as goal

abbrev pub invariant-loop-element : goal.invariant-loop-element
invariant-loop-element l = (q : ℕ) → q < l.element → IsOutside l.count (triple_in l.triples q) → ⊥
