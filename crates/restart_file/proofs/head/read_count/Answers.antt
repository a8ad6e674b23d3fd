use Rattle.std.proofs.Common.{rules, ◌≡◌, ◌<◌, ◌+◌, length, get_or, take, subst, arith, ap, sym, ◌∙◌}
use Rattle.std.specs.Str.Parse.{AllDigits, digits_value}
use Rattle.std.proofs.lemmas.Int.Digits.{digits_more}
use Rattle.std.proofs.Math.Seq.{take-length}
use Rattle.restart_file.specs.Heads.{IsCount}
use Rattle.restart_file.proofs.Heading.{count_empty, count_zeros, count_other, count_large, count_whole, count_more}
use Rattle.restart_file.proofs.head.read_count.Goals as goal
use Rattle.restart_file.proofs.head.read_count.Goals.{else-digits-eq48-via-then-digits-eq48+else-digits-gt1, else-digits-eq48-via-else-digits-eq48}

pub returns-then-is_empty : goal.returns-then-is_empty
returns-then-is_empty c = count_empty c.args.digits.now (search rules)

pub returns-then-digits-gt1 : goal.returns-then-digits-gt1
returns-then-digits-gt1 c = count_zeros c.args.digits.now c.if-digits-eq48.true c.if-digits-gt1.true

pub returns-then-not-is_ascii_digit : goal.returns-then-not-is_ascii_digit
returns-then-not-is_ascii_digit c = count_other c.args.digits.now c.loop-digit.digit-index c.loop-digit-test.true c.if-not-is_ascii_digit.ensures.cases

pub returns-then-count-gt-LONGEST_PART : goal.returns-then-count-gt-LONGEST_PART
returns-then-count-gt-LONGEST_PART c =
    let digit = c.if-not-is_ascii_digit.ensures.cases in
    let more = count_more c.args.digits.now c.loop-digit.digit-index c.loop-digit.count c.from.result c.loop-digit-test.true digit.0 digit.1 c.loop-digit.invariant.1 c.from.ensures in
    count_large c.args.digits.now (c.loop-digit.digit-index + 1) (omega (arith, more))

pub loop-digit-preserved : goal.loop-digit-preserved
loop-digit-preserved c =
    let inv = c.loop-digit.invariant in
    let digit = c.if-not-is_ascii_digit.ensures.cases in
    let more = count_more c.args.digits.now c.loop-digit.digit-index c.loop-digit.count c.from.result c.loop-digit-test.true digit.0 digit.1 inv.1 c.from.ensures in
    (omega arith, more, digits_more 10 c.args.digits.now c.loop-digit.digit-index c.loop-digit-test.true inv.2 c.if-not-is_ascii_digit.ensures.bound)

pub returns : goal.returns
returns c =
    let inv = c.loop-digit.invariant in
    let whole : take c.loop-digit.digit-index c.args.digits.now ≡ c.args.digits.now = ap (λ k. take k c.args.digits.now) (omega arith) ∙ take-length c.args.digits.now in
    let some : 0 < length c.args.digits.now = search rules in
    let lead : get_or c.args.digits.now 0 0 ≡ 48 → length c.args.digits.now ≡ 1 =
    λ zero. elim c.else-digits-eq48.branch [ else-digits-eq48-via-then-digits-eq48+else-digits-gt1 w ↦ omega arith | else-digits-eq48-via-else-digits-eq48 w ↦ absurd (w.if-digits-eq48.false zero) ] in
    let value : c.loop-digit.count ≡ digits_value 10 c.args.digits.now = inv.1 ∙ ap (digits_value 10) whole in
    subst (IsCount c.args.digits.now) (sym value) (count_whole c.args.digits.now some lead (subst (AllDigits 10) whole inv.2) (omega (arith, value)))
