use Rattle.compat_check.specs.Steps.{name_of}
use Rattle.compat_check.proofs.Placing.{first_within, second_within, point_of_middle}
use Rattle.compat_check.proofs.mesh.MacroMesh.middle.Goals as goal

pub middle_point-requires-clause-first : goal.middle_point-requires-clause-first
middle_point-requires-clause-first c = first_within c.args.self.now (name_of c.args.step.now) c.args.step.now.points c.requires.points

pub middle_point-requires-clause-second : goal.middle_point-requires-clause-second
middle_point-requires-clause-second c = second_within c.args.self.now (name_of c.args.step.now) c.args.step.now.points c.requires.points

pub returns : goal.returns
returns c = point_of_middle c.args.self.now (name_of c.args.step.now) c.args.step.now.points c.middle_point.result c.requires.points c.middle_point.ensures
