use Rattle.std.proofs.Common.{◌≤◌, ◌-◌, length}
use Rattle.locate_point.specs.Ranks.{AreBefore, AreNotBefore}
use Rattle.locate_point.proofs.ranks.rank_from.Given as goal

abbrev pub invariant-loop-low : goal.invariant-loop-low
invariant-loop-low l = record {
  order : (l.low ≤ l.high) × (l.high ≤ length l.names);
  before : AreBefore l.names l.name l.low;
  after : AreNotBefore l.names l.name l.high;
}

abbrev pub decreases-loop-low : goal.decreases-loop-low
decreases-loop-low l = l.high - l.low
