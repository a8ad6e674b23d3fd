use Rattle.written_meshes.proofs.RenamedRounds.{no_refusal}
use Rattle.written_meshes.proofs.laws.no_refusal.Goals as goal

pub returns : goal.returns
returns c = no_refusal
