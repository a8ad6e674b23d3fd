use Rattle.std.proofs.Common.{ℕ, ◌<◌, []}
use Rattle.locate_point.specs.Covering.{IsAround}
use Rattle.locate_point.proofs.downward.first_macro.Given as goal

abbrev pub invariant-loop-root : goal.invariant-loop-root
invariant-loop-root l = (r : ℕ) → r < l.root → IsAround l.mesh l.point (r, []) → ⊥
