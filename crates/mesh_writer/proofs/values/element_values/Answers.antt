use Rattle.std.proofs.Common.{ap, map, ◌∙◌}
use Rattle.std.specs.Prelude.{Some}
use Rattle.dof_transfer.specs.Held.{value_of}
use Rattle.mesh_writer.proofs.PickedValues.{all_worth}
use Rattle.mesh_writer.proofs.values.element_values.Goals as goal

pub returns-in-Ok : goal.returns-in-Ok
returns-in-Ok c = ap (map Some) c.in-Ok.ensures ∙ all_worth (value_of c.args.elements.now) c.args.leaves.now c.requires
