use Rattle.std.proofs.Common.{ℕ, ◌<◌, ◌≤◌}
use Rattle.std.specs.List.{Contains}
use Rattle.locate_point.specs.Grids.{AddsOnly, cell_at, place}
use Rattle.locate_point.proofs.grid.push_box.Given as goal

abbrev pub invariant-loop-row : goal.invariant-loop-row
invariant-loop-row l = record {
  only : AddsOnly l.name l.fn.entries.items l.entries.items;
  added : (row column : ℕ) → place l.fn.rows l.fn.low.1 ≤ row → row < l.row → l.left ≤ column → column ≤ l.right → Contains l.entries.items (cell_at l.columns row column, l.name);
}
