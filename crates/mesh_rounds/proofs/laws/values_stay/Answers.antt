use Rattle.mesh_rounds.proofs.ValuesStay.{elements_stay, vertices_stay}
use Rattle.mesh_rounds.proofs.laws.values_stay.Goals as goal

pub returns-clause-elements : goal.returns-clause-elements
returns-clause-elements c = elements_stay

pub returns-clause-vertices : goal.returns-clause-vertices
returns-clause-vertices c = vertices_stay
