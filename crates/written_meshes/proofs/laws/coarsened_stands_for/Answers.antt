use Rattle.written_meshes.proofs.RenamedSteps.{coarsened_stands_for}
use Rattle.written_meshes.proofs.laws.coarsened_stands_for.Goals as goal

pub returns : goal.returns
returns c = coarsened_stands_for
