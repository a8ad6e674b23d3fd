use Rattle.mesh_names.proofs.Squares.{squares_fit}
use Rattle.mesh_names.proofs.laws.squares_fit.Goals as goal

pub returns : goal.returns
returns c = squares_fit
