use Rattle.std.proofs.Common.{ℕ, ◌<◌}
use Rattle.compat_check.specs.Tables.{Differs}
use Rattle.compat_check.proofs.checking.first_differing.Given as goal

abbrev pub invariant-loop-place : goal.invariant-loop-place
invariant-loop-place l = (q : ℕ) → q < l.place → Differs l.elements l.sides q → ⊥
