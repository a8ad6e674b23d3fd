use Rattle.locate_point.proofs.Placing.{points_within}
use Rattle.locate_point.proofs.triangle.corners_of.Goals as goal

pub returns-clause-within : goal.returns-clause-within
returns-clause-within c = points_within c.args.mesh.now c.args.name c.points.result c.points.ensures
