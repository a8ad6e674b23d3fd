use Rattle.written_meshes.proofs.RenamedRounds.{round_stands_for}
use Rattle.written_meshes.proofs.laws.round_stands_for.Goals as goal

pub returns : goal.returns
returns c = round_stands_for
