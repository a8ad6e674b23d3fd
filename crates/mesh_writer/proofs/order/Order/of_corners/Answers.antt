use Rattle.std.proofs.Common.{◌∙◌, refl}
use Rattle.mesh_writer.specs.Orders.{first_slots}
use Rattle.mesh_writer.proofs.SlotOrders.{next_three}
use Rattle.mesh_writer.proofs.order.Order.of_corners.Goals as goal

pub loop-slots-preserved : goal.loop-slots-preserved
loop-slots-preserved c = record {
  order = c.in_ok-add_three.ensures.order;
  slots = next_three (first_slots c.args.macro_count) c.args.corners.now c.loop-slots.slots-index _ _ c.loop-slots.order.slots.items c.add_three.new.self.slots.items c.loop-slots-test.true refl c.loop-slots.invariant.slots c.in_ok-add_three.ensures.slots;
  count = c.in_ok-add_three.ensures.count ∙ c.loop-slots.invariant.count;
}
