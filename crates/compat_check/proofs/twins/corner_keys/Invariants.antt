use Rattle.std.proofs.Common.{◌≡◌, ℕ, ◌<◌, length}
use Rattle.std.specs.Prelude.{Some, slice_get}
use Rattle.compat_check.specs.Faults.{triple_in}
use Rattle.compat_check.specs.Twins.{corner_key}
use Rattle.compat_check.proofs.twins.corner_keys.Given as goal

abbrev pub invariant-loop-triple : goal.invariant-loop-triple
invariant-loop-triple l = record {
  each : length l.keys.items ≡ l.triple-index;
  key : (r : ℕ) → r < l.triple-index → slice_get l.keys.items r ≡ Some (corner_key (triple_in l.triples r));
}
