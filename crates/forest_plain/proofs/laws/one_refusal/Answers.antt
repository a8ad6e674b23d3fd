use Rattle.forest_plain.proofs.OneAnswer.{one_refusal}
use Rattle.forest_plain.proofs.laws.one_refusal.Goals as goal

pub returns : goal.returns
returns c = one_refusal
