use Rattle.mesh_mend.proofs.CutTexts.{pieces_sum}
use Rattle.mesh_mend.proofs.laws.pieces_sum.Goals as goal

pub returns : goal.returns
returns c = pieces_sum
