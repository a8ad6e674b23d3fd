use Rattle.mark_strategy.proofs.Falling.{cut_is}
use Rattle.mark_strategy.proofs.bulk.cut_at.Goals as goal

pub returns-clause-cut : goal.returns-clause-cut
returns-clause-cut c =
    let item = c.in_ok-size.ensures.item in
    cut_is c.args.sizes.now c.args.count c.in_ok-size.field-0.now c.times_in-ties.result c.requires.fall c.requires.within item.3.0 (item.3.1 0) c.times_in-ties.ensures
