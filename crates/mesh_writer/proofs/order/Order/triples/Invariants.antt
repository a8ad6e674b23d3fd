use Rattle.std.proofs.Common.{◌≡◌, map, take}
use Rattle.mesh_writer.specs.Orders.{numbered}
use Rattle.mesh_writer.proofs.order.Order.triples.Given as goal

abbrev pub invariant-loop-slots : goal.invariant-loop-slots
invariant-loop-slots l = l.triples.items ≡ map (numbered l.self.slots.items) (take l.slots-index l.corners)
