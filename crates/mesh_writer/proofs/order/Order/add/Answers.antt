use Rattle.std.proofs.Common.{◌∙◌, rules}
use Rattle.mesh_writer.proofs.SlotOrders.{none_read, slot_added}
use Rattle.mesh_writer.proofs.order.Order.add.Goals as goal

pub returns-clause-order : goal.returns-clause-order
returns-clause-order c = slot_added c.args.self.now.numbers.items c.args.self.now.slots.items c.push.new.self.items c.args.slot c.in_ok-number.number c.requires.order c.requires.inside
    (none_read c.args.self.now.numbers.items c.args.slot c.index.result.now c.is_some.result c.requires.inside c.index.ensures c.is_some.ensures c.if-is_some.false)
    c.in_ok-push.ensures.items (c.in_ok-number.ensures ∙ c.len.ensures ∙ search rules)
