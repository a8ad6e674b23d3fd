use Rattle.mesh_rounds.proofs.OneState.{text_is_one}
use Rattle.mesh_rounds.proofs.laws.text_is_one.Goals as goal

pub returns : goal.returns
returns c = text_is_one
