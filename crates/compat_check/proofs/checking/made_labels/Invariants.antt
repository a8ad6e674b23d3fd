use Rattle.std.proofs.Common.{◌≡◌, ℕ, ◌+◌, ◌*◌, ◌<◌, [], length}
use Rattle.std.specs.Prelude.{pos, None, slice_index_or}
use Rattle.compat_check.specs.Tables.{label_by}
use Rattle.compat_check.proofs.checking.made_labels.Given as goal

abbrev pub invariant-loop-element : goal.invariant-loop-element
invariant-loop-element l = record {
  each : length l.labels.items ≡ l.element;
  made : (r k : ℕ) → r < l.element → k < 3 → slice_index_or (slice_index_or l.labels.items r []) k (pos 0) ≡ label_by (slice_index_or l.sides (r * 3 + k) None);
}
