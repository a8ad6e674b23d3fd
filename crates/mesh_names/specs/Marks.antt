-- Effective marks and needs: what the rows of a round ask for.
use Rattle.std.specs.Prelude.{◌≡◌, ℕ, ◌<◌, ◌≤◌, ℤ, pos, negsuc, nat_abs, Bool, true, false, cond, ◌&&◌, List, [], ◌∷◌, ◌++◌, length, map, Option, Some, None, unwrap_or}
use Rattle.mesh_names.specs.Names.{Name, name_eq}
use Rattle.mesh_names.specs.Triangles.{Shape}
use Rattle.mesh_names.specs.Forests.{Names, Has, IsForest, IsListOf, IsLeaf}
use Rattle.mesh_names.specs.LeastForest.{Work, needs_of}
use Rattle.mesh_names.specs.Leaves.{leaves}
use Rattle.mesh_names.specs.declared.rows.MarkRow.{MarkRow}
use Rattle.mesh_names.specs.declared.rows.What.{What}
use Rattle.mesh_names.specs.declared.rows.What.TheVariants.{Mark, Elem as element_value, Vert as vertex_value}
use Rattle.mesh_names.specs.declared.rows.Place.{Place}
use Rattle.mesh_names.specs.declared.rows.Place.TheVariants.{EveryLeaf, Elem, Corner}

-- the row is one of marks
abbrev pub is_mark : What → Bool
is_mark Mark = true
is_mark element_value = false
is_mark vertex_value = false

-- the place is this leaf, or `*`
abbrev pub names_leaf : Place → Name → Bool
names_leaf EveryLeaf n = true
names_leaf (Elem m) n = name_eq m n
names_leaf (Corner m k) n = false

-- the row marks this leaf
abbrev pub marks_leaf : MarkRow → Name → Bool
marks_leaf row n = is_mark row.what && names_leaf row.place n

-- the place is `*` or an element
abbrev pub NamesElement : Place → Type 0
NamesElement EveryLeaf = Unit {0}
NamesElement (Elem m) = Unit {0}
NamesElement (Corner m k) = ⊥

-- the place is `*` or a corner, of which an element has three
abbrev pub NamesCorner : Place → Type 0
NamesCorner EveryLeaf = Unit {0}
NamesCorner (Elem m) = ⊥
NamesCorner (Corner m k) = k < 3

-- a row of this kind may have this place: a mark and an element's value `*` or an element, a vertex's value `*` or a corner
abbrev pub IsPlaceOf : What → Place → Type 0
IsPlaceOf Mark = NamesElement
IsPlaceOf element_value = NamesElement
IsPlaceOf vertex_value = NamesCorner

-- the greatest size of a number in a row of this kind: marks go from -24 to 24, values from -2^31 to 2^31
abbrev pub largest_number : What → ℕ
largest_number Mark = 24
largest_number element_value = 2147483648
largest_number vertex_value = 2147483648

-- a row that a round takes: a place and a number of its kind
pub record IsWellFormed (row : MarkRow) : Type 0 where
  pub place : IsPlaceOf row.what row.place
  pub small : nat_abs row.number ≤ largest_number row.what

-- the later of two, where there is one
abbrev pub later : Option ℤ → Option ℤ → Option ℤ
later earlier None = earlier
later earlier (Some z) = Some z

-- the number of the last row that marks this leaf
abbrev pub last_mark : List MarkRow → Name → Option ℤ
last_mark [] n = None
last_mark (row ∷ rows) n = later (cond (marks_leaf row n) (Some row.number) None) (last_mark rows n)

-- the effective mark: that number, or 0 where no row marks the leaf
abbrev pub effective_mark : List MarkRow → Name → ℤ
effective_mark rows n = unwrap_or (last_mark rows n) (pos 0)

-- how many bisections a mark asks for
abbrev pub bisections : ℤ → ℕ
bisections (pos k) = k
bisections (negsuc k) = 0

-- n is t, or below it by a word u of fewer letters than the leaf t is to be bisected
pub record IsNeeded (mesh : Shape) (old : Names) (rows : List MarkRow) (n : Name) : Type 0 where
  pub leaf : Name
  pub word : List Bool
  pub is_leaf : IsLeaf mesh old leaf
  pub fewer : length word < bisections (effective_mark rows leaf)
  pub below : n ≡ (leaf.0, word ++ leaf.1)

-- the set of all that the rows ask for
pub record AreNeeds (mesh : Shape) (old : Names) (rows : List MarkRow) (needs : Names) : Type 0 where
  pub needed : (n : Name) → Has needs n → IsNeeded mesh old rows n
  pub all : (n : Name) → IsNeeded mesh old rows n → Has needs n

-- each leaf, and how often it is to be bisected
abbrev pub work_of : List MarkRow → List Name → Work
work_of rows list = map (λ (t : Name). (t, bisections (effective_mark rows t))) list

-- the law that the needs of this work are what the rows ask for
abbrev pub MarksGiveNeeds : Type 0
MarksGiveNeeds = (mesh : Shape) (old : Names) (rows : List MarkRow) (list : List Name) → IsForest mesh old → IsListOf (leaves mesh old) list → AreNeeds mesh old rows (needs_of (work_of rows list))
