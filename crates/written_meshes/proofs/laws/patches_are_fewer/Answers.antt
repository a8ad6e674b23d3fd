use Rattle.written_meshes.proofs.FewerPatches.{patches_are_fewer}
use Rattle.written_meshes.proofs.laws.patches_are_fewer.Goals as goal

pub returns : goal.returns
returns c = patches_are_fewer
