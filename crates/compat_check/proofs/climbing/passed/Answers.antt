use Rattle.compat_check.proofs.Climbs.{passed_by}
use Rattle.compat_check.proofs.climbing.passed.Goals as goal

pub overflow_sub-result : goal.overflow_sub-result
overflow_sub-result c = (passed_by c.args.name c.args.top c.requires.passed c.depth.result c.depth-2.result c.bits.result c.bits-2.result c.requires.below c.depth.ensures.depth c.depth.ensures.small c.depth-2.ensures.depth c.bits.ensures.bits c.bits-2.ensures.bits).1

pub returns : goal.returns
returns c = λ v below.
    let is = passed_by c.args.name c.args.top v c.depth.result c.depth-2.result c.bits.result c.bits-2.result below c.depth.ensures.depth c.depth.ensures.small c.depth-2.ensures.depth c.bits.ensures.bits c.bits-2.ensures.bits in
    (is.0, is.2)
