use Rattle.std.proofs.Common.{arith}
use Rattle.locate_point.specs.Grids.{place}
use Rattle.locate_point.proofs.Filling.{adds_more, adds_none, row_more}
use Rattle.locate_point.proofs.grid.push_box.Goals as goal

pub loop-row-init : goal.loop-row-init
loop-row-init c = record { only = adds_none c.args.name c.args.entries.now.items; added = λ row column low high l r. absurd (omega (arith, low, high, c.up-row.ensures.place)) }

pub loop-row-preserved : goal.loop-row-preserved
loop-row-preserved c = record {
  only = adds_more c.args.name c.args.entries.now.items c.loop-row.entries.items c.push_row.new.entries.items c.loop-row.invariant.only c.in_ok-push_row.ensures.only;
  added = row_more c.args.name c.args.columns (place c.args.rows c.args.low.1) c.loop-row.row c.across-left.result c.across-right.result c.loop-row.entries.items c.push_row.new.entries.items c.in_ok-push_row.ensures.only c.in_ok-push_row.ensures.added c.loop-row.invariant.added;
}

pub returns-clause-added : goal.returns-clause-added
returns-clause-added c = λ row column low high left right. c.loop-row.invariant.added row column low (omega (arith, high, c.up-row-end.ensures.place, c.loop-row-test.false)) (omega (arith, left, c.across-left.ensures.place)) (omega (arith, right, c.across-right.ensures.place))
