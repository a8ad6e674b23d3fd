use Rattle.std.proofs.Common.{ℕ, ◌<◌}
use Rattle.compat_check.specs.Faults.{IsFlat, triple_in}
use Rattle.compat_check.proofs.triples.first_flat.Given as goal

abbrev pub invariant-loop-element : goal.invariant-loop-element
invariant-loop-element l = (q : ℕ) → q < l.element → IsFlat l.vertices (triple_in l.triples q) → ⊥
