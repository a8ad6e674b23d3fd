use Rattle.std.proofs.Common.{◌≡◌, map, take}
use Rattle.mesh_writer.specs.Picks.{value_in}
use Rattle.mesh_writer.proofs.values.values_in.Given as goal

abbrev pub invariant-loop-slot : goal.invariant-loop-slot
invariant-loop-slot l = l.picked.items ≡ map (value_in l.values) (take l.slot-index l.slots)
