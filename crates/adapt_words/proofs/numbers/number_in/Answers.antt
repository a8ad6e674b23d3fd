use Rattle.std.proofs.Common.{arith, Some, Ok, Err, ap, sym, ◌∙◌, ℕ}
use Rattle.std.proofs.lemmas.Str.Parse.{digits_value_short, not_in_digits, parse_digits, parse_plain}
use Rattle.adapt_words.proofs.NumberLemmas.{own, number_none, number_some}
use Rattle.adapt_words.proofs.numbers.number_in.Goals as goal
use Rattle.adapt_words.proofs.numbers.number_in.Goals.{then-word-gt-DIGITS-via-then-word-gt-DIGITS, then-word-gt-DIGITS-via-else-word-gt-DIGITS+then-begins_with_plus}
use Rattle.adapt_words.proofs.numbers.number_in.Goals.{then-number-low-via-then-number-low, then-number-low-via-else-number-low+then-number-high}

pub returns-then-word-gt-DIGITS-clause-told : goal.returns-then-word-gt-DIGITS-clause-told
returns-then-word-gt-DIGITS-clause-told c = sym (number_none c.args.low c.args.high c.args.word.now (λ h. absurd (elim c.then-word-gt-DIGITS.branch [
  | then-word-gt-DIGITS-via-then-word-gt-DIGITS w ↦ omega (arith, h.few, w.if-word-gt-DIGITS.true)
  | then-word-gt-DIGITS-via-else-word-gt-DIGITS+then-begins_with_plus w ↦ not_in_digits own c.args.word.now 43 h.digits (λ r. omega (arith, r.0, r.1)) 0 h.some w.if-begins_with_plus.ensures
])))

pub returns-in_default-clause-told : goal.returns-in_default-clause-told
returns-in_default-clause-told c = sym (number_none c.args.low c.args.high c.args.word.now (λ h.
    parse_digits own 32 c.args.word.now (Err c.in_default.field-0) c.in_default.ensures.value.0 h.digits
    (h.some, omega (arith, digits_value_short own c.args.word.now 7 h.digits h.few))))

pub returns-then-number-low-clause-told : goal.returns-then-number-low-clause-told
returns-then-number-low-clause-told c =
    let read = parse_plain own {E = ℕ} 32 c.args.word.now (Ok c.in-Ok.number) c.in-Ok.ensures.value.0 c.if-begins_with_plus.ensures in
    sym (number_none c.args.low c.args.high c.args.word.now (λ h. absurd (omega (arith, read.1, h.low_is, h.high_is, c.then-number-low.either))))

pub returns-clause-told : goal.returns-clause-told
returns-clause-told c =
    let read = parse_plain own {E = ℕ} 32 c.args.word.now (Ok c.in-Ok.number) c.in-Ok.ensures.value.0 c.if-begins_with_plus.ensures in
    ap Some read.1 ∙ sym (number_some c.args.low c.args.high c.args.word.now record {
      digits = read.0.0;
      some = read.0.1;
      few = omega (arith, c.if-word-gt-DIGITS.false);
      low_is = omega (arith, read.1, c.if-number-low.false);
      high_is = omega (arith, read.1, c.if-number-high.false);
    })
