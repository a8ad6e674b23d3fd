use Rattle.forest_plain.specs.MarkMaps.{mark_in}
use Rattle.forest_plain.proofs.MarkRows.{next_mark}
use Rattle.forest_plain.proofs.marks.Marks.of_rows.Goals as goal

pub loop-row-preserved : goal.loop-row-preserved
loop-row-preserved c n = next_mark c.args.rows.now c.loop-row.row-index c.row-item.result _ n (mark_in c.loop-row.marks n) (mark_in c.add.new.self n) c.loop-row-test.true c.row-item.is (c.loop-row.invariant n) (c.in_ok-add.ensures n)
