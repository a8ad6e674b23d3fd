use Rattle.std.proofs.Common.{ℕ, ◌<◌, ◌≤◌, ◌+◌}
use Rattle.std.specs.List.{Contains}
use Rattle.locate_point.specs.Grids.{AddsOnly}
use Rattle.locate_point.proofs.grid.push_row.Given as goal

abbrev pub invariant-loop-column : goal.invariant-loop-column
invariant-loop-column l = record {
  only : AddsOnly l.name l.fn.entries.items l.entries.items;
  added : (column : ℕ) → l.from ≤ column → column < l.column → Contains l.entries.items (l.start + column, l.name);
}
