use Rattle.std.proofs.Common.{arith, ◌≡◌, List, ℕ, Some, Ok, subst, sym, ap, ◌∙◌, to_z, of_z}
use Rattle.std.specs.Prelude.{FitsSigned, nat_abs}
use Rattle.std.specs.Result.{OkIff}
use Rattle.std.specs.Str.Parse.{IsNumeral, signed_digits_value, without_leading_sign}
use Rattle.std.proofs.lemmas.Int.{ints}
use Rattle.mark_file.proofs.FieldLemmas.{number_no_text, number_none, number_outside, number_inside}
use Rattle.mark_file.proofs.field.number_in.Goals as goal
use mir.Syntax.{w64}

pub returns-in_default : goal.returns-in_default
returns-in_default c = sym (number_no_text c.args.what c.args.field.now c.in_default.ensures.cases.0)

pub returns-in_default-parse : goal.returns-in_default-parse
returns-in_default-parse c =
    let Misses : List ℕ → Type 0 = λ bs. ¬ (IsNumeral 10 (without_leading_sign bs) × FitsSigned w64 (signed_digits_value 10 bs)) in
    sym (number_none c.args.what c.args.field.now (subst Misses c.in-Ok.ensures.cases.0 c.in_default-parse.ensures.value.0))

pub returns-then-unsigned_abs-largest_number : goal.returns-then-unsigned_abs-largest_number
returns-then-unsigned_abs-largest_number c =
    let Reads : List ℕ → Type 0 = λ bs. OkIff {E = ℕ} (Ok c.in-Ok-parse.number) (IsNumeral 10 (without_leading_sign bs) × FitsSigned w64 (signed_digits_value 10 bs)) (signed_digits_value 10 bs) in
    let same : to_z w64 (of_z w64 c.in-Ok-parse.number) ≡ c.in-Ok-parse.number = omega (arith, ints) in
    let size = ap nat_abs same in
    sym (number_outside c.args.what c.args.field.now c.in-Ok-parse.number (subst Reads c.in-Ok.ensures.cases.0 c.in-Ok-parse.ensures.value.0) (omega (arith, size, c.unsigned_abs.ensures.value, c.largest_number.ensures, c.if-unsigned_abs-largest_number.true)))

pub returns : goal.returns
returns c =
    let Reads : List ℕ → Type 0 = λ bs. OkIff {E = ℕ} (Ok c.in-Ok-parse.number) (IsNumeral 10 (without_leading_sign bs) × FitsSigned w64 (signed_digits_value 10 bs)) (signed_digits_value 10 bs) in
    let read : Reads c.args.field.now = subst Reads c.in-Ok.ensures.cases.0 c.in-Ok-parse.ensures.value.0 in
    let same : to_z w64 (of_z w64 c.in-Ok-parse.number) ≡ c.in-Ok-parse.number = omega (arith, ints) in
    let size = ap nat_abs same in
    ap Some same ∙ sym (number_inside c.args.what c.args.field.now c.in-Ok-parse.number read (omega (arith, size, c.unsigned_abs.ensures.value, c.largest_number.ensures, c.if-unsigned_abs-largest_number.false)))
