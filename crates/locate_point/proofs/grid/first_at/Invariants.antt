use Rattle.std.proofs.Common.{ℕ, ◌<◌, ◌≤◌, ◌-◌, length, get_or}
use Rattle.locate_point.specs.Grids.{Entry}
use Rattle.locate_point.proofs.grid.first_at.Given as goal

abbrev pub invariant-loop-low : goal.invariant-loop-low
invariant-loop-low l = record {
  bounds : (l.low ≤ l.high) × (l.high ≤ length l.entries);
  below : (k : ℕ) (d : Entry) → k < l.low → (get_or l.entries k d).0 < l.number;
  from : (k : ℕ) (d : Entry) → l.high ≤ k → k < length l.entries → l.number ≤ (get_or l.entries k d).0;
}

abbrev pub decreases-loop-low : goal.decreases-loop-low
decreases-loop-low l = l.high - l.low
