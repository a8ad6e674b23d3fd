use Rattle.std.proofs.Common.{◌≡◌, ◌+◌, ◌≤◌, length}
use Rattle.std.specs.Prelude.{All}
use Rattle.compat_check.specs.Within.{IsWithin}
use Rattle.locate_point.specs.PointsFile.{points_in, points_of_lines}
use Rattle.locate_point.specs.Reading.{left_size, lines_after, points_then}
use Rattle.locate_point.proofs.points.read_points.Given as goal

abbrev pub invariant-loop-left : goal.invariant-loop-left
invariant-loop-left l = record {
  means : points_in l.bytes ≡ points_then l.points.items (points_of_lines l.line (lines_after l.left));
  within : All IsWithin l.points.items;
  small : l.line + left_size l.left ≤ length l.bytes + 2;
}

abbrev pub decreases-loop-left : goal.decreases-loop-left
decreases-loop-left l = left_size l.left
