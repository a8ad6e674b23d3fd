use Rattle.std.proofs.Common.{◌≡◌, ◌-◌, length}
use Rattle.locate_point.specs.Covering.{corners_of}
use Rattle.locate_point.specs.Ranks.{IsRank}
use Rattle.locate_point.specs.Ways.{IsOnWay}
use Rattle.locate_point.proofs.downward.leaf_below.Given as goal

abbrev pub invariant-loop-point : goal.invariant-loop-point
invariant-loop-point l = record {
  corners : l.corners ≡ corners_of l.mesh l.name;
  way : IsOnWay l.mesh l.leaves l.point l.name;
  rank : IsRank l.leaves l.name l.rank;
}

abbrev pub decreases-loop-point : goal.decreases-loop-point
decreases-loop-point l = 24 - length l.name.1
