-- What the rows of a round set: values of leaves and of vertices of the forest before the round. Of all rows that name one, the last wins.
use Rattle.std.specs.Prelude.{◌≡◌, ℕ, zero, suc, ℤ, Bool, true, ◌⊎◌, List, ◌∷◌, ◌++◌, All, Option, Some, None}
use Rattle.mesh_names.specs.Names.{Name}
use Rattle.mesh_names.specs.Triangles.{Shape, Triangle, Vertex, IsCorner, triangle}
use Rattle.mesh_names.specs.Forests.{Names, IsLeaf}
use Rattle.mesh_names.specs.Marks.{names_leaf}
use Rattle.mesh_names.specs.Patches.{vertex_of}
use Rattle.mesh_names.specs.declared.patch.VertexKey.{VertexKey}
use Rattle.mesh_names.specs.declared.rows.MarkRow.{MarkRow}
use Rattle.mesh_names.specs.declared.rows.What.TheVariants.{Elem as element_value, Vert as vertex_value}
use Rattle.mesh_names.specs.declared.rows.Place.{Place}
use Rattle.mesh_names.specs.declared.rows.Place.TheVariants.{EveryLeaf, Elem, Corner}
use Rattle.compat_check.specs.Meshes.{Mesh, shape_of}
use Rattle.dof_transfer.specs.Held.{Held, index_of, value_of}
use Rattle.dof_transfer.specs.VertexValues.{VertexHeld, index_at, value_at}
use Rattle.dof_transfer.specs.VertexNames.{IsVertexIn}

-- a corner of a triangle, by its number
abbrev pub corner_at : Triangle → ℕ → Vertex
corner_at t zero = t.0
corner_at t (suc zero) = t.1
corner_at t (suc (suc k)) = t.2

-- the vertices of a place: each corner of a leaf, or one corner of one element
abbrev pub IsVertexAt : Shape → Names → Place → Vertex → Type 0
IsVertexAt mesh members EveryLeaf v = (n : Name) × IsLeaf mesh members n × IsCorner v (triangle mesh n)
IsVertexAt mesh members (Elem n) v = ⊥
IsVertexAt mesh members (Corner n k) v = v ≡ corner_at (triangle mesh n) k

-- the row sets the value of this leaf
pub record SetsLeaf (n : Name) (row : MarkRow) : Type 0 where
  pub what : row.what ≡ element_value
  pub place : names_leaf row.place n ≡ true

-- the row sets the value of this vertex
pub record SetsVertexOf (mesh : Shape) (members : Names) (v : Vertex) (row : MarkRow) : Type 0 where
  pub what : row.what ≡ vertex_value
  pub place : IsVertexAt mesh members row.place v

-- this is the number of the last of the rows that are meant
pub record IsLast (meant : MarkRow → Type 0) (rows : List MarkRow) (value : Option ℤ) : Type 0 where
  pub before : List MarkRow
  pub row : MarkRow
  pub after : List MarkRow
  pub split : rows ≡ before ++ row ∷ after
  pub this : meant row
  pub none : All (λ r. meant r → ⊥) after
  pub number : value ≡ Some row.number

-- what has a value takes the number of the last of the rows that are meant, and keeps its own where none is
abbrev pub TakesLast : (MarkRow → Type 0) → List MarkRow → Option ℤ → Option ℤ → Type 0
TakesLast meant rows old new = (All (λ r. meant r → ⊥) rows × (new ≡ old)) ⊎ IsLast meant rows new

-- how values are held: the value and the index of each thing, and which indices are used
pub record Holding (A H : Type 0) : Type 0 where
  pub value : H → A → Option ℤ
  pub index : H → A → Option ℕ
  pub flags : H → List Bool

-- what is there takes what the rows set, and nothing else changes
pub record AreSet {A H : Type 0} (holding : Holding A H) (there : A → Type 0) (sets : A → MarkRow → Type 0) (rows : List MarkRow) (old new : H) : Type 0 where
  pub values : (a : A) → there a → TakesLast (sets a) rows (holding.value old a) (holding.value new a)
  pub none : (a : A) → holding.value old a ≡ None → holding.value new a ≡ None
  pub indices : (a : A) → holding.index new a ≡ holding.index old a
  pub flags : holding.flags new ≡ holding.flags old

-- how the values of leaves and of vertices are held
abbrev pub leaf_holding : Holding Name Held
leaf_holding = record { value = value_of; index = index_of; flags = λ h. h.flags }

abbrev pub vertex_holding : Holding VertexKey VertexHeld
vertex_holding = record { value = value_at; index = index_at; flags = λ h. h.patches.flags }

-- the leaves of the forest take what the rows set
abbrev pub AreElementsSet : Mesh → Names → List MarkRow → Held → Held → Type 0
AreElementsSet mesh members = AreSet leaf_holding (IsLeaf (shape_of mesh) members) SetsLeaf

-- the vertices of the forest take what the rows set
abbrev pub AreVerticesSet : Mesh → Names → List MarkRow → VertexHeld → VertexHeld → Type 0
AreVerticesSet mesh members = AreSet vertex_holding (IsVertexIn mesh members) (λ key. SetsVertexOf (shape_of mesh) members (vertex_of (shape_of mesh) key))
