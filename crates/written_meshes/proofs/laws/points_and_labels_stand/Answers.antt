use Rattle.written_meshes.proofs.ReadAgain.{points_and_labels_stand}
use Rattle.written_meshes.proofs.laws.points_and_labels_stand.Goals as goal

pub returns : goal.returns
returns c = points_and_labels_stand
