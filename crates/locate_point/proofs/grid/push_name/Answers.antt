use Rattle.std.proofs.Common.{ℕ, subst, sym, ◌≤◌}
use Rattle.std.specs.List.{Contains}
use Rattle.compat_check.specs.Points.{Point}
use Rattle.locate_point.specs.Covering.{Covers, IsAround}
use Rattle.locate_point.specs.Grids.{cell, cell_at, place}
use Rattle.locate_point.proofs.Cells.{covered_cell}
use Rattle.locate_point.proofs.Filling.{ok_then}
use Rattle.locate_point.proofs.grid.push_name.Goals as goal

pub returns-clause-added : goal.returns-clause-added
returns-clause-added c =
    let new = c.push_box.new.entries.items in
    ok_then c.push_box.result
    ((row column : ℕ) → place c.args.rows c.box_of.result.0.1 ≤ row → row ≤ place c.args.rows c.box_of.result.1.1 → place c.args.columns c.box_of.result.0.0 ≤ column → column ≤ place c.args.columns c.box_of.result.1.0 → Contains new (cell_at c.args.columns row column, c.args.name))
    ((p : Point) → IsAround c.args.mesh.now p c.args.name → Contains new (cell c.args.columns c.args.rows p, c.args.name)) c.push_box.ensures.added
    (λ all p around. covered_cell c.args.columns c.args.rows c.corners_of.result c.box_of.result.0 c.box_of.result.1 p (λ row column. Contains new (cell_at c.args.columns row column, c.args.name)) c.box_of.ensures (subst (λ t. Covers t p) (sym c.corners_of.ensures.corners) around) all)
