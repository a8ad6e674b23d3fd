use Rattle.std.proofs.Common.{◌≡◌, ℕ, ◌<◌, length}
use Rattle.std.specs.Prelude.{slice_index_or}
use Rattle.compat_check.proofs.parts.Parts.new.Given as goal

abbrev pub invariant-loop-element : goal.invariant-loop-element
invariant-loop-element l = record {
  each : length l.parents.items ≡ l.element;
  own : (x : ℕ) → x < l.element → slice_index_or l.parents.items x 0 ≡ x;
}
