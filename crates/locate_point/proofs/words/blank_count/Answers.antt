use Rattle.std.proofs.Common.{not, sym, ◌∙◌, arith}
use Rattle.std.proofs.lemmas.Bool.{not_from_true, not_from_false}
use Rattle.macro_file.specs.Lines.{is_blank}
use Rattle.macro_file.proofs.Cuts.{first_is, none_is}
use Rattle.locate_point.proofs.words.blank_count.Goals as goal

pub returns-then-not-is_blank-clause-value : goal.returns-then-not-is_blank-clause-value
returns-then-not-is_blank-clause-value c = first_is (λ b. not (is_blank b)) c.args.text.now _ (omega arith) (λ k h. not_from_true _ (c.loop-i.invariant k h)) (not_from_false _ (sym c.is_blank.ensures ∙ c.if-not-is_blank.true))

pub returns-clause-value : goal.returns-clause-value
returns-clause-value c = none_is (λ b. not (is_blank b)) c.args.text.now c.loop-i.i (omega arith) (λ k h. not_from_true _ (c.loop-i.invariant k h))
