use Rattle.std.proofs.Common.{◌≡◌, ℕ, ◌<◌, length}
use Rattle.std.specs.Prelude.{ℤ, pos, ◌-ℤ◌, slice_index_or}
use Rattle.compat_check.specs.Parts.{Leads, size}
use Rattle.compat_check.specs.Grading.{low_of}
use Rattle.compat_check.proofs.grading.grades.Given as goal

abbrev pub invariant-loop-element : goal.invariant-loop-element
invariant-loop-element l = record {
  each : length l.grades.items ≡ l.element;
  over : (head : ℕ → ℕ) (height : ℕ → ℤ) → Leads (size l.parts) l.parts head height → (x : ℕ) → x < l.element → pos (slice_index_or l.grades.items x 0) ≡ height x -ℤ low_of l.lows.items (head x);
}
