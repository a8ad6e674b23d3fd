-- Forests: finite sets of names that hold the parent of each member, their leaves, and conformity.
use Rattle.std.specs.Prelude.{◌≡◌, ℕ, ◌<◌, ◌≤◌, Bool, true, false, List, ◌∷◌}
use Rattle.std.specs.FinSet.{FinSet, contains, from_list}
use Rattle.std.specs.List.Sorted.{IsStrictlySortedBy}
use Rattle.mesh_names.specs.Names.{Name, name_cmp}
use Rattle.mesh_names.specs.Triangles.{Shape, Triangle, size, level, triangle, middle, IsCorner}

-- a finite set of names
abbrev pub Names : Type 0
Names = FinSet name_cmp

-- the name is one of these
abbrev pub Has : Names → Name → Type 0
Has names n = contains names n ≡ true

-- each of the fewer names is one of the more
abbrev pub Within : Names → Names → Type 0
Within fewer more = (n : Name) → Has fewer n → Has more n

-- the list has the names of the set, each once, in their order
pub record IsListOf (names : Names) (list : List Name) : Type 0 where
  pub in_order : IsStrictlySortedBy name_cmp list
  pub all : from_list list ≡ names

-- the law that a set has one list
abbrev pub ListsAreOne : Type 0
ListsAreOne = (names : Names) (a b : List Name) → IsListOf names a → IsListOf names b → a ≡ b

-- a forest, by its members, the bisected elements: names of the mesh of level at most 23, with the parent of each
pub record IsForest (mesh : Shape) (members : Names) : Type 0 where
  pub rooted : (n : Name) → Has members n → n.0 < size mesh
  pub shallow : (n : Name) → Has members n → level mesh n ≤ 23
  pub closed : (root : ℕ) (b : Bool) (w : List Bool) → Has members (root, b ∷ w) → Has members (root, w)

-- a name of the mesh, of a level that an element can have
pub record IsInMesh (mesh : Shape) (n : Name) : Type 0 where
  pub rooted : n.0 < size mesh
  pub low : level mesh n ≤ 24

-- a leaf: a macro element or a member's child that is no member
pub record IsLeaf (mesh : Shape) (members : Names) (n : Name) : Type 0 where
  pub rooted : n.0 < size mesh
  pub unsplit : contains members n ≡ false
  pub born : (b : Bool) (w : List Bool) → n.1 ≡ b ∷ w → Has members (n.0, w)

-- the middle of no edge of t is a corner of u
abbrev pub HangsNone : Triangle → Triangle → Type 0
HangsNone t u = (IsCorner (middle t.0 t.1) u → ⊥) × (IsCorner (middle t.1 t.2) u → ⊥) × (IsCorner (middle t.2 t.0) u → ⊥)

-- no leaf has an edge whose middle is a corner of a leaf
pub record Conforms (mesh : Shape) (members : Names) : Type 0 where
  pub no_hanging : (m n : Name) → IsLeaf mesh members m → IsLeaf mesh members n → HangsNone (triangle mesh m) (triangle mesh n)
