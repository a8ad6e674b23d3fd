-- How some things take a number while all others keep their values.
use Rattle.std.specs.Prelude.{◌≡◌, ℕ, ◌<◌, ℤ, List, [], ◌∷◌, length, slice_index_or, ◌⊎◌, Option, Some, None, IfSome, IsSome}
use Rattle.mesh_names.specs.Names.{Name}
use Rattle.mesh_names.specs.Triangles.{Shape, Vertex, IsCorner, triangle}
use Rattle.mesh_names.specs.Forests.{IsInMesh}
use Rattle.mesh_names.specs.Patches.{vertex_of}
use Rattle.mesh_names.specs.declared.patch.VertexKey.{VertexKey}
use Rattle.mesh_names.specs.declared.rows.MarkRow.{MarkRow}
use Rattle.mesh_names.specs.declared.rows.What.{What}
use Rattle.mesh_names.specs.declared.rows.What.TheVariants.{Elem as element_value, Vert as vertex_value}
use Rattle.mesh_names.specs.declared.rows.Place.{Place}
use Rattle.mesh_names.specs.declared.rows.Place.TheVariants.{EveryLeaf, Elem, Corner}
use Rattle.compat_check.specs.Meshes.{Mesh, shape_of}
use Rattle.dof_transfer.specs.Held.{Held, value_of}
use Rattle.dof_transfer.specs.VertexValues.{IsKeyOf, VertexHeld, value_at}
use Rattle.forest_plain.specs.Rounds.{named}
use Rattle.mesh_rounds.specs.Setting.{AreSet, Holding, corner_at, leaf_holding, vertex_holding}

-- either it is meant, and has this number now; or it is not, and has what it had
abbrev pub Takes : Type 0 → ℤ → Option ℤ → Option ℤ → Type 0
Takes meant number old new = (meant × (new ≡ Some number)) ⊎ ((meant → ⊥) × (new ≡ old))

-- what is meant takes the number, and nothing else changes; of what is no proper name nothing is said
pub record AllTake {A H : Type 0} (holding : Holding A H) (proper meant : A → Type 0) (number : ℤ) (old new : H) : Type 0 where
  pub values : (a : A) → proper a → IsSome (holding.value old a) → Takes (meant a) number (holding.value old a) (holding.value new a)
  pub none : (a : A) → holding.value old a ≡ None → holding.value new a ≡ None
  pub indices : (a : A) → holding.index new a ≡ holding.index old a
  pub flags : holding.flags new ≡ holding.flags old

-- it is in the list
abbrev pub IsAmong : {A : Type 0} → A → List A → Type 0
IsAmong a [] = ⊥
IsAmong a (b ∷ bs) = (a ≡ b) ⊎ IsAmong a bs

-- the vertex is a corner of a listed element
abbrev pub IsCornerAmong : Shape → List Name → Vertex → Type 0
IsCornerAmong mesh [] v = ⊥
IsCornerAmong mesh (n ∷ ns) v = IsCorner v (triangle mesh n) ⊎ IsCornerAmong mesh ns v

-- the key is the one of its vertex
abbrev pub IsProper : Mesh → VertexKey → Type 0
IsProper mesh key = IsKeyOf mesh key (vertex_of (shape_of mesh) key)

-- leaves that are meant take the number
abbrev pub LeavesTake : (Name → Type 0) → ℤ → Held → Held → Type 0
LeavesTake = AllTake leaf_holding (λ n. Unit {0})

-- vertices that are meant take the number
abbrev pub VerticesTake : Mesh → (Vertex → Type 0) → ℤ → VertexHeld → VertexHeld → Type 0
VerticesTake mesh meant = AllTake vertex_holding (IsProper mesh) (λ key. meant (vertex_of (shape_of mesh) key))

-- each corner of the element has a value
abbrev pub HasCorners : Mesh → VertexHeld → Name → Type 0
HasCorners mesh held n = (k : ℕ) (key : VertexKey) → k < 3 → IsKeyOf mesh key (corner_at (triangle (shape_of mesh) n) k) → IsSome (value_at held key)

-- the leaf is at this place; `*` stands for the listed ones
abbrev pub IsLeafAt : List Name → Place → Name → Type 0
IsLeafAt leaves EveryLeaf n = IsAmong n leaves
IsLeafAt leaves (Elem m) n = n ≡ m
IsLeafAt leaves (Corner m k) n = ⊥

-- the vertex is at this place; `*` stands for the corners of the listed leaves
abbrev pub IsCornerAt : Shape → List Name → Place → Vertex → Type 0
IsCornerAt mesh leaves EveryLeaf v = IsCornerAmong mesh leaves v
IsCornerAt mesh leaves (Elem m) v = ⊥
IsCornerAt mesh leaves (Corner m k) v = v ≡ corner_at (triangle mesh m) k

-- the row sets this leaf
pub record MeansLeaf (leaves : List Name) (n : Name) (row : MarkRow) : Type 0 where
  pub what : row.what ≡ element_value
  pub place : IsLeafAt leaves row.place n

-- the row sets this vertex
pub record MeansVertex (mesh : Shape) (leaves : List Name) (v : Vertex) (row : MarkRow) : Type 0 where
  pub what : row.what ≡ vertex_value
  pub place : IsCornerAt mesh leaves row.place v

-- a row of this kind for every leaf
pub record IsEvery (what : What) (row : MarkRow) : Type 0 where
  pub what_is : row.what ≡ what
  pub place : row.place ≡ EveryLeaf

-- the rows that count begin here: at one for every leaf, or at the front
abbrev pub IsStart : What → List MarkRow → ℕ → Type 0
IsStart what rows start = (start ≡ 0) ⊎ ((start < length rows) × ((row : MarkRow) → IsEvery what (slice_index_or rows start row)))

-- the element of a row of leaves' values has a value
abbrev pub NamesLive : Held → MarkRow → Type 0
NamesLive held row = row.what ≡ element_value → IfSome (named row.place) (λ n. IsSome (value_of held n))

-- the corners of the element of a row of vertices' values have values
abbrev pub NamesCorners : Mesh → VertexHeld → MarkRow → Type 0
NamesCorners mesh held row = row.what ≡ vertex_value → IfSome (named row.place) (λ n. IsInMesh (shape_of mesh) n × HasCorners mesh held n)

-- the element of a row of vertices' values is one of the listed leaves
abbrev pub NamesAmong : List Name → MarkRow → Type 0
NamesAmong leaves row = row.what ≡ vertex_value → IfSome (named row.place) (λ n. IsAmong n leaves)

-- what has a value takes what the rows set
abbrev pub LeavesSet : List Name → List MarkRow → Held → Held → Type 0
LeavesSet leaves rows old new = AreSet leaf_holding (λ n. Unit {0} × IsSome (value_of old n)) (MeansLeaf leaves) rows old new

abbrev pub VerticesSet : Mesh → List Name → List MarkRow → VertexHeld → VertexHeld → Type 0
VerticesSet mesh leaves rows old new = AreSet vertex_holding (λ key. IsProper mesh key × IsSome (value_at old key)) (λ key. MeansVertex (shape_of mesh) leaves (vertex_of (shape_of mesh) key)) rows old new
