use Rattle.std.proofs.Common.{◌≡◌, map}
use Rattle.mesh_writer.specs.Numbers.{macro_keys}
use Rattle.mesh_writer.specs.Slots.{point_of_key}
use Rattle.mesh_writer.proofs.slots.macro_points.Given as goal

abbrev pub invariant-loop-number : goal.invariant-loop-number
invariant-loop-number l = l.points.items ≡ map (point_of_key l.mesh) (macro_keys l.number)
