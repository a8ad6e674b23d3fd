use Rattle.std.proofs.Common.{rules, ◌≡◌, ◌<◌, ◌+◌, length, get_or, take, subst, arith, ap, sym, ◌∙◌}
use Rattle.std.specs.Str.Parse.{AllDigits, digits_value}
use Rattle.std.proofs.lemmas.Int.Digits.{digits_more}
use Rattle.std.proofs.Math.Seq.{take-length}
use Rattle.mesh_names.specs.Spelling.{IsRoot}
use Rattle.mesh_names.proofs.SpelledNames.{root_empty, root_zeros, root_other, root_large, root_whole, root_more}
use Rattle.mesh_names.proofs.spelling.read_root.Goals as goal
use Rattle.mesh_names.proofs.spelling.read_root.Goals.{else-digits-eq48-via-then-digits-eq48+else-digits-gt1, else-digits-eq48-via-else-digits-eq48}

pub returns-then-is_empty : goal.returns-then-is_empty
returns-then-is_empty c = root_empty c.args.digits.now (search rules)

pub returns-then-digits-gt1 : goal.returns-then-digits-gt1
returns-then-digits-gt1 c = root_zeros c.args.digits.now c.if-digits-eq48.true c.if-digits-gt1.true

pub returns-then-not-is_ascii_digit : goal.returns-then-not-is_ascii_digit
returns-then-not-is_ascii_digit c = root_other c.args.digits.now c.loop-digit.digit-index c.loop-digit-test.true c.if-not-is_ascii_digit.ensures.cases

pub returns-then-root-gt-LAST_ROOT : goal.returns-then-root-gt-LAST_ROOT
returns-then-root-gt-LAST_ROOT c =
    let digit = c.if-not-is_ascii_digit.ensures.cases in
    let more = root_more c.args.digits.now c.loop-digit.digit-index c.loop-digit.root c.from.result c.loop-digit-test.true digit.0 digit.1 c.loop-digit.invariant.1 c.from.ensures in
    root_large c.args.digits.now (c.loop-digit.digit-index + 1) (omega (arith, more))

pub loop-digit-preserved : goal.loop-digit-preserved
loop-digit-preserved c =
    let inv = c.loop-digit.invariant in
    let digit = c.if-not-is_ascii_digit.ensures.cases in
    let more = root_more c.args.digits.now c.loop-digit.digit-index c.loop-digit.root c.from.result c.loop-digit-test.true digit.0 digit.1 inv.1 c.from.ensures in
    (omega arith, more, digits_more 10 c.args.digits.now c.loop-digit.digit-index c.loop-digit-test.true inv.2 c.if-not-is_ascii_digit.ensures.bound)

pub returns : goal.returns
returns c =
    let inv = c.loop-digit.invariant in
    let whole : take c.loop-digit.digit-index c.args.digits.now ≡ c.args.digits.now = ap (λ k. take k c.args.digits.now) (omega arith) ∙ take-length c.args.digits.now in
    let some : 0 < length c.args.digits.now = search rules in
    let lead : get_or c.args.digits.now 0 0 ≡ 48 → length c.args.digits.now ≡ 1 =
    λ zero. elim c.else-digits-eq48.branch [ else-digits-eq48-via-then-digits-eq48+else-digits-gt1 w ↦ omega arith | else-digits-eq48-via-else-digits-eq48 w ↦ absurd (w.if-digits-eq48.false zero) ] in
    let value : c.loop-digit.root ≡ digits_value 10 c.args.digits.now = inv.1 ∙ ap (digits_value 10) whole in
    subst (IsRoot c.args.digits.now) (sym value) (root_whole c.args.digits.now some lead (subst (AllDigits 10) whole inv.2) (omega (arith, value)))
