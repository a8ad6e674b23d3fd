use Rattle.std.proofs.Common.{◌≤◌, ◌-◌, length}
use Rattle.locate_point.specs.Ranks.{AreBefore}
use Rattle.locate_point.proofs.ranks.part_with_rank.Given as goal

abbrev pub invariant-loop-step : goal.invariant-loop-step
invariant-loop-step l = record {
  within : l.low ≤ length l.names;
  before : AreBefore l.names l.name l.low;
  step : 1 ≤ l.step;
}

abbrev pub decreases-loop-step : goal.decreases-loop-step
decreases-loop-step l = length l.names - l.low
