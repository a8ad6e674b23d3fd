use Rattle.std.proofs.Common.{◌≡◌, ◌∙◌, sym, ap, subst, Some, None, ◌≤◌, length, true, cond}
use Rattle.mesh_io.specs.Decimals.{digits_at, number, is_exponent, is_minus, unsigned}
use Rattle.mesh_io.proofs.DigitLists.{few_exact, is_exponent_of, no_digits, some_left, none_left}
use Rattle.mesh_io.proofs.decimal.exponent_text.Goals as goal

pub returns-then-is_empty-2-clause-small : goal.returns-then-is_empty-2-clause-small
returns-then-is_empty-2-clause-small c = (few_exact c.sign-minus.result.1.now c.digits.result.0.kept c.digits.result.0.dropped c.if-bare-gt-EXPONENT_DIGITS.false (c.digits.ensures.heads 0 no_digits)).1

pub returns-then-is_empty-2-clause-value : goal.returns-then-is_empty-2-clause-value
returns-then-is_empty-2-clause-value c =
    let bare = c.sign-minus.result.1.now in
    let kept = (few_exact bare c.digits.result.0.kept c.digits.result.0.dropped c.if-bare-gt-EXPONENT_DIGITS.false (c.digits.ensures.heads 0 no_digits)).0 in
    let low : 1 ≤ length bare = some_left _ (c.if-is_empty.ensures) in
    let ok = is_exponent_of bare c.digits.result.1.now c.digits.ensures.rest (none_left _ (c.if-is_empty-2.ensures)) low c.if-bare-gt-EXPONENT_DIGITS.false in
    let ok' = subst (λ ys. is_exponent ys ≡ true) c.sign-minus.ensures.rest ok in
    (λ i. Some (c.sign-minus.ensures.minus i, (kept ∙ ap (λ ys. number 0 (digits_at ys)) c.sign-minus.ensures.rest) i))
    ∙ sym (ap (λ b. cond b (Some (is_minus c.args.text.now, number 0 (digits_at (unsigned c.args.text.now)))) None) ok')
