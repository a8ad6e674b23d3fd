use Rattle.std.proofs.Common.{◌∙◌, ◌≡◌, ◌*◌, ◌+◌, ◌-◌, ◌/◌, ◌%◌, ◌≤◌, ℕ, ap, arith, subst, sym}
use Rattle.mark_strategy.proofs.Shares.{least_sum_has, least_sum_is}
use Rattle.mark_strategy.proofs.bulk.least_sum.Goals as goal

pub returns-clause-enough : goal.returns-clause-enough
returns-clause-enough c =
    let part : c.args.share.part ≡ c.from-part.result = sym (c.from-part.ensures ∙ c.part.ensures.part) in
    let whole : c.args.share.whole ≡ c.from-whole.result = sym (c.from-whole.ensures ∙ c.whole.ensures.whole) in
    subst (λ (w : ℕ). c.args.share.part * c.args.total ≤ (c.from-part.result * (c.args.total / w) + (c.from-part.result * (c.args.total % w) + w - 1) / w) * c.args.share.whole) whole
    (subst (λ (p : ℕ). c.args.share.part * c.args.total ≤ (p * (c.args.total / c.args.share.whole) + (p * (c.args.total % c.args.share.whole) + c.args.share.whole - 1) / c.args.share.whole) * c.args.share.whole) part
    (least_sum_has c.args.share.part c.args.share.whole c.args.total (omega (arith, c.part.ensures.part, c.part.ensures.within)) (omega (arith, c.whole.ensures.whole, c.whole.ensures.some))))

pub returns-clause-least : goal.returns-clause-least
returns-clause-least c sum reach =
    let part : c.args.share.part ≡ c.from-part.result = sym (c.from-part.ensures ∙ c.part.ensures.part) in
    let whole : c.args.share.whole ≡ c.from-whole.result = sym (c.from-whole.ensures ∙ c.whole.ensures.whole) in
    subst (λ (w : ℕ). c.from-part.result * (c.args.total / w) + (c.from-part.result * (c.args.total % w) + w - 1) / w ≤ sum) whole
    (subst (λ (p : ℕ). p * (c.args.total / c.args.share.whole) + (p * (c.args.total % c.args.share.whole) + c.args.share.whole - 1) / c.args.share.whole ≤ sum) part
    (least_sum_is c.args.share.part c.args.share.whole c.args.total sum (omega (arith, c.part.ensures.part, c.part.ensures.within)) (omega (arith, c.whole.ensures.whole, c.whole.ensures.some)) reach))
