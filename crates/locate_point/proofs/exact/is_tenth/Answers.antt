use Rattle.std.proofs.Common.{rules}
use Rattle.locate_point.proofs.Tenths.{multiple_answer}
use Rattle.locate_point.proofs.exact.is_tenth.Goals as goal

pub returns : goal.returns
returns c = multiple_answer c.args.coordinate c.unsigned_abs.result (search rules) c.unsigned_abs.ensures.value
