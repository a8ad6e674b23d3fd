use Rattle.mesh_names.proofs.Worked.{turned_square_refined}
use Rattle.mesh_names.proofs.laws.turned_square_refined.Goals as goal

pub returns : goal.returns
returns c = turned_square_refined
