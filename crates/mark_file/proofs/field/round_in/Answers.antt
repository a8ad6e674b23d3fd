use Rattle.std.proofs.Common.{pow-add, rules, ◌≡◌, ◌<◌, Some, length, take, subst, arith, ap, sym, ◌∙◌}
use Rattle.std.specs.Str.Parse.{AllDigits, digits_value}
use Rattle.std.proofs.lemmas.Int.Digits.{digits_more}
use Rattle.std.proofs.lemmas.Str.Parse.{digit_at}
use Rattle.std.proofs.Math.Seq.{take-length}
use Rattle.mark_file.proofs.FieldLemmas.{IsRound, round_none, round_some, digit_more}
use Rattle.mark_file.proofs.field.round_in.Goals as goal

pub returns-then-is_empty : goal.returns-then-is_empty
returns-then-is_empty c = let none : length c.args.field.now ≡ 0 = search rules in sym (round_none c.args.field.now (λ h. absurd (omega (arith, h.some))))

pub returns-then-field-gt-ROUND_DIGITS : goal.returns-then-field-gt-ROUND_DIGITS
returns-then-field-gt-ROUND_DIGITS c = sym (round_none c.args.field.now (λ h. absurd (omega (arith, h.few))))

pub returns-then-not-is_ascii_digit : goal.returns-then-not-is_ascii_digit
returns-then-not-is_ascii_digit c =
    sym (round_none c.args.field.now (λ h. absurd (
    let d = digit_at c.args.field.now c.loop-digit.digit-index h.digits c.loop-digit-test.true in
    let out = c.if-not-is_ascii_digit.ensures.cases in
    omega (arith, d.0, d.1, out))))

pub loop-digit-preserved : goal.loop-digit-preserved
loop-digit-preserved c =
    let inv = c.loop-digit.invariant in
    let digit = c.if-not-is_ascii_digit.ensures.cases in
    let more = digit_more c.args.field.now c.loop-digit.digit-index c.loop-digit.round c.from.result c.loop-digit-test.true digit.0 digit.1 inv.1 c.from.ensures in
    (omega (arith, c.from.ensures, digit.1, pow-add 10 c.loop-digit.digit-index 1), more, digits_more 10 c.args.field.now c.loop-digit.digit-index c.loop-digit-test.true inv.2 c.if-not-is_ascii_digit.ensures.bound)

pub returns-then-round-eq0 : goal.returns-then-round-eq0
returns-then-round-eq0 c =
    let inv = c.loop-digit.invariant in
    let whole : take c.loop-digit.digit-index c.args.field.now ≡ c.args.field.now = ap (λ k. take k c.args.field.now) (omega arith) ∙ take-length c.args.field.now in
    let value : c.loop-digit.round ≡ digits_value 10 c.args.field.now = inv.1 ∙ ap (digits_value 10) whole in
    sym (round_none c.args.field.now (λ h. absurd (omega (arith, value, h.low))))

pub returns-then-round-gt-LAST_ROUND : goal.returns-then-round-gt-LAST_ROUND
returns-then-round-gt-LAST_ROUND c =
    let inv = c.loop-digit.invariant in
    let whole : take c.loop-digit.digit-index c.args.field.now ≡ c.args.field.now = ap (λ k. take k c.args.field.now) (omega arith) ∙ take-length c.args.field.now in
    let value : c.loop-digit.round ≡ digits_value 10 c.args.field.now = inv.1 ∙ ap (digits_value 10) whole in
    sym (round_none c.args.field.now (λ h. absurd (omega (arith, value, h.high))))

pub returns : goal.returns
returns c =
    let inv = c.loop-digit.invariant in
    let whole : take c.loop-digit.digit-index c.args.field.now ≡ c.args.field.now = ap (λ k. take k c.args.field.now) (omega arith) ∙ take-length c.args.field.now in
    let value : c.loop-digit.round ≡ digits_value 10 c.args.field.now = inv.1 ∙ ap (digits_value 10) whole in
    let some : 0 < length c.args.field.now = search rules in
    let round : IsRound c.args.field.now = record {
      digits = subst (AllDigits 10) whole inv.2;
      some = omega (arith, some);
      few = omega arith;
      low = omega (arith, value);
      high = omega (arith, value);
    } in
    ap Some value ∙ sym (round_some c.args.field.now round)
