use Rattle.std.proofs.Common.{◌++◌, ◌∙◌, ap}
use Rattle.std.proofs.lemmas.Int.{to_z-of_z}
use mir.Syntax.{w64}
use Rattle.mesh_io.specs.Decimals.{written_units}
use Rattle.macro_file.proofs.writer.put_coordinate.Goals as goal

pub returns-in-Ok-clause-ok : goal.returns-in-Ok-clause-ok
returns-in-Ok-clause-ok c = c.in-Ok.ensures.ok ∙ ap (λ z. c.args.to.now.items ++ written_units z) (to_z-of_z w64 c.args.units c.ranges.units)
