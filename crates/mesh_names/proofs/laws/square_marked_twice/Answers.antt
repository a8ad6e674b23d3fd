use Rattle.mesh_names.proofs.Worked.{square_marked_twice}
use Rattle.mesh_names.proofs.laws.square_marked_twice.Goals as goal

pub returns : goal.returns
returns c = square_marked_twice
