use Rattle.std.proofs.Common.{◌∙◌}
use Rattle.mesh_writer.proofs.SlotOrders.{next_first}
use Rattle.mesh_writer.proofs.order.Order.of_macro.Goals as goal

pub loop-slot-preserved : goal.loop-slot-preserved
loop-slot-preserved c = record {
  order = c.in_ok-add.ensures.order;
  slots = next_first c.loop-slot.order.slots.items c.add.new.self.slots.items c.loop-slot.slot c.loop-slot.invariant.slots c.in_ok-add.ensures.slots;
  count = c.in_ok-add.ensures.count ∙ c.loop-slot.invariant.count;
}
