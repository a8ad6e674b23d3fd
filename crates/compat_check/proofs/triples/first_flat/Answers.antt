use Rattle.std.proofs.Common.{below_more, true≢false, sym, ◌∙◌}
use Rattle.compat_check.proofs.triples.first_flat.Goals as goal

pub loop-element-preserved : goal.loop-element-preserved
loop-element-preserved c = below_more _ _ c.loop-element.invariant (λ h. true≢false (sym (c.is_flat.ensures.1 h) ∙ c.if-is_flat.false))
