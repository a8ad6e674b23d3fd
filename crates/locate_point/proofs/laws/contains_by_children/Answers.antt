use Rattle.locate_point.proofs.Placing.{by_children}
use Rattle.locate_point.proofs.laws.contains_by_children.Goals as goal

pub returns : goal.returns
returns c = by_children c.midpoints_exact.ensures
