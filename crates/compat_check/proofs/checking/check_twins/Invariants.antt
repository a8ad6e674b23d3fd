use Rattle.std.proofs.Common.{◌≡◌, ℕ, ◌<◌}
use Rattle.std.specs.Prelude.{None, slice_index_or}
use Rattle.compat_check.proofs.checking.check_twins.Given as goal

abbrev pub invariant-loop-second : goal.invariant-loop-second
invariant-loop-second l = (s : ℕ) → s < l.second → slice_index_or l.before-items s None ≡ None
