use Rattle.std.proofs.Common.{◌≡◌, map, take}
use Rattle.mesh_writer.specs.Picks.{key_in}
use Rattle.mesh_writer.proofs.order.keys_in.Given as goal

abbrev pub invariant-loop-slot : goal.invariant-loop-slot
invariant-loop-slot l = l.picked.items ≡ map (key_in l.keys) (take l.slot-index l.slots)
