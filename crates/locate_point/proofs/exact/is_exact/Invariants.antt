use Rattle.std.proofs.Common.{ℕ, ◌<◌}
use Rattle.compat_check.specs.Faults.{point_at}
use Rattle.compat_check.specs.Points.{LiesOn}
use Rattle.locate_point.proofs.exact.is_exact.Given as goal

abbrev pub invariant-loop-number : goal.invariant-loop-number
invariant-loop-number l = (i : ℕ) → i < l.number → LiesOn 4096 (point_at l.mesh.vertices i)
