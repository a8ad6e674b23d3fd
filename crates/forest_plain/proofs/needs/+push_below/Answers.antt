use Rattle.forest_plain.proofs.NeededNames.{nothing_below, all_below}
use Rattle.forest_plain.proofs.needs.+push_below.Goals as goal

pub returns-then-times-eq0 : goal.returns-then-times-eq0
returns-then-times-eq0 t c = nothing_below c.args.needed.now.items c.args.times c.args.name c.if-times-eq0.true

pub returns : goal.returns
returns t c = all_below c.push_below-2.result c.args.needed.now.items c.push.new.self.items c.push_below.new.needed.items c.push_below-2.new.needed.items c.args.times c.args.name c.child_at.result c.child_at-2.result c.if-times-eq0.false c.in_ok-push.ensures.items c.child_at.ensures c.in_ok-push_below.ensures c.child_at-2.ensures c.push_below-2.ensures
