use Rattle.std.proofs.Common.{rules}
use Rattle.compat_check.proofs.Areas.{line_answer}
use Rattle.compat_check.proofs.triples.are_in_line.Goals as goal

pub returns : goal.returns
returns c = line_answer c.args.first.now c.args.second.now c.args.third.now c.rectangle.result c.rectangle-2.result (search rules) (search rules) c.rectangle.ensures c.rectangle-2.ensures
