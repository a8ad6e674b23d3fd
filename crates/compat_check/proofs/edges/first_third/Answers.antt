use Rattle.std.proofs.Common.{below_more, true≢false, sym, ◌∙◌, arith}
use Rattle.compat_check.proofs.edges.first_third.Goals as goal

pub loop-place-preserved : goal.loop-place-preserved
loop-place-preserved c = below_more _ _ c.loop-place.invariant (λ h. true≢false (sym (c.is_third.ensures.1 h) ∙ c.if-is_third.false))

pub returns : goal.returns
returns c = λ i h. c.loop-place.invariant i (omega (arith, h))
