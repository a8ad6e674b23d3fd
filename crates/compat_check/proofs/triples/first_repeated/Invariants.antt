use Rattle.std.proofs.Common.{ℕ, ◌<◌}
use Rattle.compat_check.specs.Faults.{IsRepeated, triple_in}
use Rattle.compat_check.proofs.triples.first_repeated.Given as goal

abbrev pub invariant-loop-element : goal.invariant-loop-element
invariant-loop-element l = (q : ℕ) → q < l.element → IsRepeated (triple_in l.triples q) → ⊥
