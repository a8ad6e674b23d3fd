use Rattle.std.proofs.Common.{ℕ, ◌<◌}
use Rattle.compat_check.specs.Paired.{IsThirdAt}
use Rattle.compat_check.proofs.edges.first_third.Given as goal

abbrev pub invariant-loop-place : goal.invariant-loop-place
invariant-loop-place l = (q : ℕ) → q < l.place → IsThirdAt l.earlier q → ⊥
