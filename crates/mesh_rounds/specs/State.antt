-- A mesh between rounds, and what one round makes of it.
use Rattle.std.specs.Prelude.{◌≡◌, List, [], All, ◌⊎◌, IsSome, None}
use Rattle.std.specs.FinSet.{empty}
use Rattle.mesh_names.specs.Names.{Name}
use Rattle.mesh_names.specs.Triangles.{Shape}
use Rattle.mesh_names.specs.Forests.{Names, IsForest, IsListOf}
use Rattle.mesh_names.specs.Leaves.{leaves}
use Rattle.mesh_names.specs.Conformity.{HoldsPartners}
use Rattle.mesh_names.specs.declared.patch.RoundDelta.{RoundDelta}
use Rattle.mesh_names.specs.declared.patch.VertexKey.{VertexKey}
use Rattle.mesh_names.specs.declared.rows.MarkRow.{MarkRow}
use Rattle.mesh_names.specs.declared.rows.What.TheVariants.{Mark}
use Rattle.mesh_names.specs.declared.rows.Place.TheVariants.{EveryLeaf}
use Rattle.compat_check.specs.Meshes.{Mesh, across_in, shape_of}
use Rattle.dof_transfer.specs.ByName.{AreElementValues}
use Rattle.dof_transfer.specs.Changes.{AreOfForest, IsChange}
use Rattle.dof_transfer.specs.Exchanges.{element_change}
use Rattle.dof_transfer.specs.Held.{Held, IsTidied}
use Rattle.dof_transfer.specs.Macros.{AreMacroElements}
use Rattle.dof_transfer.specs.VertexNames.{AreOfVertices, AreVertexValues, IsTransition, IsVertexIn}
use Rattle.dof_transfer.specs.VertexValues.{AreMacroVertices, IsVertexChange, IsVertexTidied, VertexHeld, value_at}
use Rattle.forest_plain.specs.Rounds.{IsRoundBy, Room}
use Rattle.mesh_rounds.specs.declared.values.Values.{Values}
use Rattle.mesh_rounds.specs.Setting.{AreElementsSet, AreVerticesSet}

-- the bisected elements, and what is held of vertices and of leaves
pub record State : Type 0 where
  pub members : Names
  pub vertices : VertexHeld
  pub elements : Held

-- a forest with these values
abbrev pub with_values : Names → Values → State
with_values members values = record { members = members; vertices = values.vertices; elements = values.elements }

-- a conforming forest of which exactly the vertices and the leaves have values
pub record IsState (mesh : Mesh) (state : State) : Type 0 where
  pub forest : IsForest (shape_of mesh) state.members
  pub partners : HoldsPartners (across_in mesh) state.members
  pub vertices : AreOfVertices mesh state.members state.vertices
  pub elements : AreOfForest (shape_of mesh) state.members state.elements

-- exactly the vertices of the forest have values, of which none is named here
pub record HaveVertices (mesh : Mesh) (members : Names) (held : VertexHeld) : Type 0 where
  pub live : (key : VertexKey) → IsVertexIn mesh members key → IsSome (value_at held key)
  pub none : (key : VertexKey) → (IsVertexIn mesh members key → ⊥) → value_at held key ≡ None

-- the same as `IsState`, as a fact of which there is no more than one proof
pub record Belongs (mesh : Mesh) (state : State) : Type 0 where
  pub forest : IsForest (shape_of mesh) state.members
  pub partners : HoldsPartners (across_in mesh) state.members
  pub vertices : HaveVertices mesh state.members state.vertices
  pub elements : AreOfForest (shape_of mesh) state.members state.elements

-- before any round nothing is bisected, and the macro vertices and elements have their values
pub record IsFirst (mesh : Mesh) (state : State) : Type 0 where
  pub members : state.members ≡ empty
  pub vertices : AreMacroVertices mesh state.vertices
  pub elements : AreMacroElements mesh state.elements

-- the values of vertices follow a round's patches: where these lead from one forest to another, the vertices of the new one have their values by name. Indices are taken and given back in the order of the patches, and renumbered where holes outnumber the used ones
pub record VerticesFollow (mesh : Mesh) (before : Names) (delta : RoundDelta) (after : Names) (old new : VertexHeld) : Type 0 where
  pub values : IsForest (shape_of mesh) before → AreOfVertices mesh before old → IsTransition mesh before delta.born.items delta.died.items after → AreVertexValues mesh after old new
  pub changed : VertexHeld
  pub change : IsVertexChange mesh old delta.born.items delta.died.items changed
  pub tidied : IsVertexTidied changed new

-- and so do those of leaves
pub record ElementsFollow (mesh : Mesh) (before : Names) (delta : RoundDelta) (after : Names) (old new : Held) : Type 0 where
  pub values : AreOfForest (shape_of mesh) before old → IsChange (shape_of mesh) before delta.born.items delta.died.items after → AreElementValues (shape_of mesh) after old new
  pub tidied : IsTidied (element_change (shape_of mesh) old delta.born.items delta.died.items) new

-- the vertices through a round: its rows set values, and then each vertex of the new forest has its value by name
pub record IsVertexRound (mesh : Mesh) (before : Names) (rows : List MarkRow) (delta : RoundDelta) (after : Names) (old new : VertexHeld) : Type 0 where
  pub set : VertexHeld
  pub rows_set : AreVerticesSet mesh before rows old set
  pub values : AreVertexValues mesh after set new
  pub changed : VertexHeld
  pub change : IsVertexChange mesh set delta.born.items delta.died.items changed
  pub tidied : IsVertexTidied changed new

-- the leaves through a round, in the same way
pub record IsElementRound (mesh : Mesh) (before : Names) (rows : List MarkRow) (delta : RoundDelta) (after : Names) (old new : Held) : Type 0 where
  pub set : Held
  pub rows_set : AreElementsSet mesh before rows old set
  pub values : AreElementValues (shape_of mesh) after set new
  pub tidied : IsTidied (element_change (shape_of mesh) set delta.born.items delta.died.items) new

-- a round that was done: the forest is refined and coarsened, and the values go along
pub record IsMeshRound (mesh : Mesh) (room : Room) (rows : List MarkRow) (old new : State) : Type 0 where
  pub delta : RoundDelta
  pub forest : IsRoundBy (shape_of mesh) (across_in mesh) room old.members rows new.members delta
  pub vertices : IsVertexRound mesh old.members rows delta new.members old.vertices new.vertices
  pub elements : IsElementRound mesh old.members rows delta new.members old.elements new.elements

-- a row that gives every leaf or every vertex of a leaf a value
pub record SetsEvery (row : MarkRow) : Type 0 where
  pub value : row.what ≡ Mark → ⊥
  pub place : row.place ≡ EveryLeaf

-- the list has the leaves, or there is no row that needs them and the list is empty
abbrev pub ListsLeaves : Shape → Names → List MarkRow → List Name → Type 0
ListsLeaves mesh members rows list = IsListOf (leaves mesh members) list ⊎ ((list ≡ []) × All (λ row. SetsEvery row → ⊥) rows)
