use Rattle.std.proofs.Common.{sym, ◌∙◌, arith}
use Rattle.macro_file.proofs.LineLemmas.{last_line}
use Rattle.locate_point.proofs.Fronts.{front_answer}
use Rattle.locate_point.proofs.words.next_line.Goals as goal

pub returns-then-end-bytes-clause-line : goal.returns-then-end-bytes-clause-line
returns-then-end-bytes-clause-line c = last_line c.args.bytes.now (sym c.to_newline-end.ensures.value ∙ c.if-end-bytes.true)

pub returns-clause-line : goal.returns-clause-line
returns-clause-line c = front_answer c.args.bytes.now c.to_newline-end.result c.trimmed.result.now c.to_newline-end.ensures.value (omega (arith, c.to_newline-end.ensures.within, c.if-end-bytes.false)) c.trimmed.ensures
