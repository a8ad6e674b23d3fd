use Rattle.locate_point.proofs.Cells.{box_answer, high_kept, low_kept}
use Rattle.locate_point.proofs.grid.box_of.Goals as goal

pub returns : goal.returns
returns c =
    let t = c.args.corners in
    let w = c.requires in
    box_answer t c.least.result c.least-2.result c.greatest.result c.greatest-2.result (low_kept c.least.result t.0.0 t.1.0 t.2.0 w.0.0 w.1.0 w.2.0 c.least.ensures.bound) (low_kept c.least-2.result t.0.1 t.1.1 t.2.1 w.0.1 w.1.1 w.2.1 c.least-2.ensures.bound)
    (high_kept c.greatest.result t.0.0 t.1.0 t.2.0 w.0.0 w.1.0 w.2.0 c.greatest.ensures.bound) (high_kept c.greatest-2.result t.0.1 t.1.1 t.2.1 w.0.1 w.1.1 w.2.1 c.greatest-2.ensures.bound) c.least.ensures.small c.least-2.ensures.small c.greatest.ensures.small c.greatest-2.ensures.small
