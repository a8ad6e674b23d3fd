use Rattle.locate_point.proofs.Fronts.{return-off, return-none, some_there}
use Rattle.locate_point.proofs.words.trimmed.Goals as goal

pub returns-then-text-last-eq13 : goal.returns-then-text-last-eq13
returns-then-text-last-eq13 c = return-off c.args.text.now (some_there c.args.text.now c.if-is_empty.ensures) c.if-text-last-eq13.true

pub returns-else-text-last-eq13 : goal.returns-else-text-last-eq13
returns-else-text-last-eq13 c = return-none c.args.text.now (λ some e. c.if-text-last-eq13.false e)
