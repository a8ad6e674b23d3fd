use Rattle.std.proofs.Common.{◌≡◌, ℕ, ◌<◌, ◌≤◌, ◌-◌, length, get_or}
use Rattle.locate_point.specs.Covering.{IsAround}
use Rattle.locate_point.specs.Grids.{Entry}
use Rattle.locate_point.proofs.grid.first_in.Given as goal

abbrev pub invariant-loop-at : goal.invariant-loop-at
invariant-loop-at l = record {
  before : (k : ℕ) (d : Entry) → k < l.at → (get_or l.entries k d).0 ≡ l.number → IsAround l.mesh l.point (get_or l.entries k d).1 → ⊥;
  from : (k : ℕ) (d : Entry) → l.at ≤ k → k < length l.entries → l.number ≤ (get_or l.entries k d).0;
}

abbrev pub decreases-loop-at : goal.decreases-loop-at
decreases-loop-at l = length l.entries - l.at
