use Rattle.std.proofs.Common.{◌≡◌, map, take}
use Rattle.mesh_writer.specs.Picks.{point_in}
use Rattle.mesh_writer.proofs.order.points_in.Given as goal

abbrev pub invariant-loop-slot : goal.invariant-loop-slot
invariant-loop-slot l = l.picked.items ≡ map (point_in l.points) (take l.slot-index l.slots)
