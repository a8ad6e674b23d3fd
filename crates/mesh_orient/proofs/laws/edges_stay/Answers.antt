use Rattle.mesh_orient.proofs.Turned.{edges_stay}
use Rattle.mesh_orient.proofs.laws.edges_stay.Goals as goal

pub returns : goal.returns
returns c = edges_stay
