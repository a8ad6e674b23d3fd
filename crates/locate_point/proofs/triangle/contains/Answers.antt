use Rattle.std.proofs.Common.{rules}
use Rattle.locate_point.proofs.Signs.{around}
use Rattle.locate_point.proofs.triangle.contains.Goals as goal

pub returns : goal.returns
returns c = around c.args.corners c.args.point c.doubled_area-a.result c.doubled_area-b.result c.doubled_area-c.result c.some_below.result c.some_above.result (search rules) (search rules) (search rules) c.doubled_area-a.ensures c.doubled_area-b.ensures c.doubled_area-c.ensures c.some_below.ensures c.some_above.ensures
