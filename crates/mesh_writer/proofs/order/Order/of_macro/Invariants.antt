use Rattle.std.proofs.Common.{◌≡◌, length}
use Rattle.mesh_writer.specs.Orders.{IsOrder, first_slots}
use Rattle.mesh_writer.proofs.order.Order.of_macro.Given as goal

abbrev pub invariant-loop-slot : goal.invariant-loop-slot
invariant-loop-slot l = record {
  order : IsOrder l.order;
  slots : l.order.slots.items ≡ first_slots l.slot;
  count : length l.order.numbers.items ≡ l.slot_count;
}
