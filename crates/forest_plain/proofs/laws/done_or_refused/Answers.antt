use Rattle.forest_plain.proofs.OneAnswer.{done_or_refused}
use Rattle.forest_plain.proofs.laws.done_or_refused.Goals as goal

pub returns : goal.returns
returns c = done_or_refused
