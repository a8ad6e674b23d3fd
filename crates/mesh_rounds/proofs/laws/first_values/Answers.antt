use Rattle.mesh_rounds.proofs.ValuesStay.{first_elements, first_vertices}
use Rattle.mesh_rounds.proofs.laws.first_values.Goals as goal

pub returns-clause-elements : goal.returns-clause-elements
returns-clause-elements c = first_elements

pub returns-clause-vertices : goal.returns-clause-vertices
returns-clause-vertices c = first_vertices
