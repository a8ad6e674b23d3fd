-- Of which forest the values are: at first, and after each round.
use Rattle.std.specs.FinSet.{empty}
use Rattle.mesh_names.specs.Triangles.{Shape}
use Rattle.mesh_names.specs.Forests.{Names, IsForest}
use Rattle.compat_check.specs.Meshes.{Mesh, shape_of}
use Rattle.dof_transfer.specs.Held.{Held}
use Rattle.dof_transfer.specs.ByName.{AreElementValues}
use Rattle.dof_transfer.specs.Changes.{AreOfForest}
use Rattle.dof_transfer.specs.Macros.{AreMacroElements}
use Rattle.dof_transfer.specs.VertexNames.{AreOfVertices, AreVertexValues}
use Rattle.dof_transfer.specs.VertexValues.{AreMacroVertices, VertexHeld}

-- the law that the values of the macro elements are those of the forest in which nothing is bisected
abbrev pub FirstElements : Type 0
FirstElements = (mesh : Mesh) (held : Held) → AreMacroElements mesh held → AreOfForest (shape_of mesh) empty held

-- the law that the values of the macro vertices are those of the forest in which nothing is bisected
abbrev pub FirstVertices : Type 0
FirstVertices = (mesh : Mesh) (held : VertexHeld) → AreMacroVertices mesh held → AreOfVertices mesh empty held

-- the law that the elements' values after a round are those of the new forest
abbrev pub ElementsStay : Type 0
ElementsStay = (mesh : Shape) (members : Names) (old new : Held) → IsForest mesh members → AreElementValues mesh members old new → AreOfForest mesh members new

-- the law that the vertices' values after a round are those of the new forest
abbrev pub VerticesStay : Type 0
VerticesStay = (mesh : Mesh) (members : Names) (old new : VertexHeld) → AreVertexValues mesh members old new → AreOfVertices mesh members new
