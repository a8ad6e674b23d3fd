-- The values of vertices after a round, by name.
use Rattle.std.specs.Prelude.{◌≡◌, ◌<◌, ℤ, ◌+ℤ◌, true, false, List, [], ◌∷◌, length, Some, None, All, IfSome}
use Rattle.std.specs.FinSet.{contains, difference, from_list, union}
use Rattle.mesh_names.specs.Triangles.{Vertex, middle, size, triangle}
use Rattle.mesh_names.specs.Forests.{Names, Has}
use Rattle.mesh_names.specs.Patches.{owns, vertex_of}
use Rattle.mesh_names.specs.declared.patch.PatchName.{PatchName}
use Rattle.mesh_names.specs.declared.patch.VertexKey.{VertexKey}
use Rattle.mesh_names.specs.declared.patch.VertexKey.TheVariants.{Macro, Patch}
use Rattle.compat_check.specs.Meshes.{Mesh, across_in, shape_of}
use Rattle.dof_transfer.specs.Exchanges.{all_members, floor_half, members_of}
use Rattle.dof_transfer.specs.VertexValues.{IsKeyOf, VertexHeld, value_at}

-- the vertex has this value
pub record HasAt (mesh : Mesh) (held : VertexHeld) (v : Vertex) (x : ℤ) : Type 0 where
  pub key : VertexKey
  pub names : IsKeyOf mesh key v
  pub is : value_at held key ≡ Some x

-- a vertex keeps its value; one that had none, the middle of two, takes half the sum of their values, rounded down
pub data HasVertexValue (mesh : Mesh) (old : VertexHeld) : Vertex → ℤ → Type 0 where
  kept : (v : Vertex) (x : ℤ) → HasAt mesh old v x → HasVertexValue mesh old v x
  made : (a b : Vertex) (x y : ℤ) → ((z : ℤ) → HasAt mesh old (middle a b) z → ⊥) → HasVertexValue mesh old a x → HasVertexValue mesh old b y → HasVertexValue mesh old (middle a b) (floor_half (x +ℤ y))

-- the key of a vertex of the forest: a macro vertex, or the midpoint of a member's patch
abbrev pub IsVertexIn : Mesh → Names → VertexKey → Type 0
IsVertexIn mesh members (Macro i) = i < length mesh.vertices
IsVertexIn mesh members (Patch n) = Has members n × (owns (across_in mesh) n ≡ true)

-- the vertices of the forest have such values, and no other has one
pub record VerticesHave (mesh : Mesh) (members : Names) (held : VertexHeld) (is : Vertex → ℤ → Type 0) : Type 0 where
  pub vertices : (key : VertexKey) → IsVertexIn mesh members key → (x : ℤ) × (value_at held key ≡ Some x) × is (vertex_of (shape_of mesh) key) x
  pub none : (key : VertexKey) → (IsVertexIn mesh members key → ⊥) → value_at held key ≡ None

-- the vertices of the forest have their values by name, and no other has one
abbrev pub AreVertexValues : Mesh → Names → VertexHeld → VertexHeld → Type 0
AreVertexValues mesh members old new = VerticesHave mesh members new (HasVertexValue mesh old)

-- exactly the vertices of the forest have values
abbrev pub AreOfVertices : Mesh → Names → VertexHeld → Type 0
AreOfVertices mesh members held = VerticesHave mesh members held (λ v x. Unit {0})

-- the first of a patch is its owner, and the second is none
pub record IsOwned (mesh : Mesh) (p : PatchName) : Type 0 where
  pub rooted : p.first.0 < size (shape_of mesh)
  pub owner : owns (across_in mesh) p.first ≡ true
  pub other : IfSome p.second (λ m. owns (across_in mesh) m ≡ false)

-- the vertex is one of the forest
pub record StandsIn (mesh : Mesh) (members : Names) (v : Vertex) : Type 0 where
  pub key : VertexKey
  pub names : IsKeyOf mesh key v
  pub inside : IsVertexIn mesh members key

-- the patch is a new one, and the ends of its refinement edge are vertices of the forest
pub record CanMake (mesh : Mesh) (members : Names) (p : PatchName) : Type 0 where
  pub owned : IsOwned mesh p
  pub fresh : contains members p.first ≡ false
  pub first : StandsIn mesh members (triangle (shape_of mesh) p.first).0
  pub second : StandsIn mesh members (triangle (shape_of mesh) p.first).1

-- midpoints are made one after another, each when the ends of its edge are there
abbrev pub AreMakings : Mesh → Names → List PatchName → Names → Type 0
AreMakings mesh members [] after = after ≡ members
AreMakings mesh members (p ∷ ps) after = CanMake mesh members p × AreMakings mesh (union members (from_list (members_of p))) ps after

-- from one forest's vertices to another's: the midpoints of born patches come, and then those of died ones go
pub record IsTransition (mesh : Mesh) (before : Names) (born died : List PatchName) (after : Names) : Type 0 where
  pub refined : Names
  pub makings : AreMakings mesh before born refined
  pub owned : All (IsOwned mesh) died
  pub is : after ≡ difference refined (from_list (all_members died))
