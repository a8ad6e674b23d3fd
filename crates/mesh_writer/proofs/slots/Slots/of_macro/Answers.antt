use Rattle.std.proofs.Common.{◌∙◌, ap}
use Rattle.mesh_writer.specs.Numbers.{macro_keys}
use Rattle.mesh_writer.proofs.MacroPlaces.{macro_slots}
use Rattle.mesh_writer.proofs.slots.Slots.of_macro.Goals as goal

pub returns : goal.returns
returns c = macro_slots c.args.mesh.now _ (c.in_ok-keys.ensures ∙ ap macro_keys c.vertex_count.ensures) c.in_ok-points.ensures c.new.ensures.rising c.new.ensures.empty
