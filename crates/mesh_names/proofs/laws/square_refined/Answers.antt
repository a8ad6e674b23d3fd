use Rattle.mesh_names.proofs.Worked.{square_refined}
use Rattle.mesh_names.proofs.laws.square_refined.Goals as goal

pub returns : goal.returns
returns c = square_refined
