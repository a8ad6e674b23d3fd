use Rattle.std.proofs.Common.{sym, ◌∙◌, arith}
use Rattle.macro_file.specs.Lines.{is_blank}
use Rattle.macro_file.proofs.Cuts.{first_is, none_is}
use Rattle.locate_point.proofs.words.word_length.Goals as goal

pub returns-then-is_blank-clause-value : goal.returns-then-is_blank-clause-value
returns-then-is_blank-clause-value c = first_is is_blank c.args.text.now _ (omega arith) c.loop-i.invariant (sym c.is_blank.ensures ∙ c.if-is_blank.true)

pub returns-clause-value : goal.returns-clause-value
returns-clause-value c = none_is is_blank c.args.text.now c.loop-i.i (omega arith) c.loop-i.invariant
