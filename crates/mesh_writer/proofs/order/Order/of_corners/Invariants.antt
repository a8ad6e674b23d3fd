use Rattle.std.proofs.Common.{◌≡◌, length, take}
use Rattle.mesh_writer.specs.Orders.{IsOrder, first_slots, slots_of, with_slots}
use Rattle.mesh_writer.proofs.order.Order.of_corners.Given as goal

abbrev pub invariant-loop-slots : goal.invariant-loop-slots
invariant-loop-slots l = record {
  order : IsOrder l.order;
  slots : l.order.slots.items ≡ with_slots (first_slots l.macro_count) (slots_of (take l.slots-index l.corners));
  count : length l.order.numbers.items ≡ l.slot_count;
}
