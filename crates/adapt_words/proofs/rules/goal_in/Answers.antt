use Rattle.std.proofs.Common.{arith, Some, Ok, Err, ap, sym, ◌∙◌, ℕ}
use Rattle.std.proofs.lemmas.Str.Parse.{digits_value_short, not_in_digits, parse_digits, parse_plain}
use Rattle.adapt_words.proofs.GoalLemmas.{goal_none, goal_some}
use Rattle.adapt_words.proofs.NumberLemmas.{own}
use Rattle.adapt_words.proofs.rules.goal_in.Goals as goal
use Rattle.adapt_words.proofs.rules.goal_in.Goals.{then-word-gt-GOAL_DIGITS-via-then-word-gt-GOAL_DIGITS, then-word-gt-GOAL_DIGITS-via-else-word-gt-GOAL_DIGITS+then-begins_with_plus}

pub returns-then-word-gt-GOAL_DIGITS-clause-told : goal.returns-then-word-gt-GOAL_DIGITS-clause-told
returns-then-word-gt-GOAL_DIGITS-clause-told c = sym (goal_none c.args.word.now (λ h. absurd (elim c.then-word-gt-GOAL_DIGITS.branch [
  | then-word-gt-GOAL_DIGITS-via-then-word-gt-GOAL_DIGITS w ↦ omega (arith, h.few, w.if-word-gt-GOAL_DIGITS.true)
  | then-word-gt-GOAL_DIGITS-via-else-word-gt-GOAL_DIGITS+then-begins_with_plus w ↦ not_in_digits own c.args.word.now 43 h.digits (λ r. omega (arith, r.0, r.1)) 0 h.some w.if-begins_with_plus.ensures
])))

pub returns-in_default-clause-told : goal.returns-in_default-clause-told
returns-in_default-clause-told c = sym (goal_none c.args.word.now (λ h.
    parse_digits own 64 c.args.word.now (Err c.in_default.field-0) c.in_default.ensures.value.0 h.digits
    (h.some, omega (arith, digits_value_short own c.args.word.now 19 h.digits h.few))))

pub returns-then-goal-gt-LARGEST_GOAL-clause-told : goal.returns-then-goal-gt-LARGEST_GOAL-clause-told
returns-then-goal-gt-LARGEST_GOAL-clause-told c =
    let read = parse_plain own {E = ℕ} 64 c.args.word.now (Ok c.in-Ok.goal) c.in-Ok.ensures.value.0 c.if-begins_with_plus.ensures in
    sym (goal_none c.args.word.now (λ h. absurd (omega (arith, read.1, h.small, c.if-goal-gt-LARGEST_GOAL.true))))

pub returns-clause-told : goal.returns-clause-told
returns-clause-told c =
    let read = parse_plain own {E = ℕ} 64 c.args.word.now (Ok c.in-Ok.goal) c.in-Ok.ensures.value.0 c.if-begins_with_plus.ensures in
    ap Some read.1 ∙ sym (goal_some c.args.word.now record {
      digits = read.0.0;
      some = read.0.1;
      few = omega (arith, c.if-word-gt-GOAL_DIGITS.false);
      small = omega (arith, read.1, c.if-goal-gt-LARGEST_GOAL.false);
    })
