use Rattle.std.proofs.Common.{◌≡◌, ℕ, ◌<◌, length}
use Rattle.std.specs.Prelude.{Some, slice_get}
use Rattle.compat_check.specs.Places.{ends_at, in_order}
use Rattle.compat_check.proofs.edges.edge_keys.Given as goal

abbrev pub invariant-loop-place : goal.invariant-loop-place
invariant-loop-place l = record {
  each : length l.keys.items ≡ l.place;
  key : (place : ℕ) → place < l.place → slice_get l.keys.items place ≡ Some (in_order (ends_at l.triples place));
}
