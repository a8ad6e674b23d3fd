-- What a round answers on a forest: the least conforming refinement, coarsened, or the first refusal.
use Rattle.std.specs.Prelude.{◌≡◌, ℕ, ◌+◌, ◌<◌, ◌≤◌, min, true, List, [], ◌∷◌, length, slice_index_or, ◌++◌, Option, Some, None, IfSome, All}
use Rattle.std.specs.FinSet.{difference, from_list}
use Rattle.mesh_names.specs.Names.{Name}
use Rattle.mesh_names.specs.Triangles.{Shape, level}
use Rattle.mesh_names.specs.Partners.{Across}
use Rattle.mesh_names.specs.Forests.{Names, IsForest, IsLeaf}
use Rattle.mesh_names.specs.Conformity.{HoldsPartners}
use Rattle.mesh_names.specs.LeastForest.{IsLeast}
use Rattle.mesh_names.specs.Patches.{patch_count}
use Rattle.mesh_names.specs.Marks.{NamesElement, is_mark, names_leaf, bisections, AreNeeds}
use Rattle.mesh_names.specs.declared.patch.RoundDelta.{RoundDelta}
use Rattle.mesh_names.specs.declared.rows.MarkRow.{MarkRow}
use Rattle.mesh_names.specs.declared.rows.Place.{Place}
use Rattle.mesh_names.specs.declared.rows.Place.TheVariants.{EveryLeaf, Elem, Corner}
use Rattle.mesh_names.specs.Coarsening.{IsCoarsened, marked_by}
use Rattle.forest_plain.specs.Deltas.{AreBorn, AreDied}
use Rattle.forest_plain.specs.declared.refusal.RoundRefusal.{RoundRefusal}
use Rattle.forest_plain.specs.declared.refusal.RoundRefusal.TheVariants.{RoundsUsedUp, NotALeaf, LevelTooDeep, PoolFull, Memory}

-- the set of the names of a list
abbrev pub set_of : List Name → Names
set_of list = from_list list

-- the set has the names of the list that are no members
abbrev pub IsUnsplit : List Name → Names → Names → Type 0
IsUnsplit list members names = names ≡ difference (from_list list) members

-- the element that a row names, or a corner of it
abbrev pub named : Place → Option Name
named EveryLeaf = None
named (Elem n) = Some n
named (Corner n k) = Some n

-- the element that the row names, if it names one, is a leaf
abbrev pub NamesLeaf : Shape → Names → MarkRow → Type 0
NamesLeaf mesh old row = IfSome (named row.place) (λ n. IsLeaf mesh old n)

-- the greatest level of the leaves that the row names
pub record IsDeepest (mesh : Shape) (old : Names) (row : MarkRow) (deepest : ℕ) : Type 0 where
  pub leaf : Name
  pub is_leaf : IsLeaf mesh old leaf
  pub is_named : names_leaf row.place leaf ≡ true
  pub reached : level mesh leaf ≡ deepest
  pub greatest : (n : Name) → IsLeaf mesh old n → names_leaf row.place n ≡ true → level mesh n ≤ deepest

-- the row is a mark above 0 of an element or of every leaf
pub record Bisects (row : MarkRow) : Type 0 where
  pub mark : is_mark row.what ≡ true
  pub positive : 0 < bisections row.number
  pub element : NamesElement row.place

-- the row is a mark above 0 of every leaf
pub record BisectsEvery (row : MarkRow) : Type 0 where
  pub bisects : Bisects row
  pub every : named row.place ≡ None

-- the greatest level of the listed names
pub record IsGreatestIn (mesh : Shape) (list : List Name) (greatest : ℕ) : Type 0 where
  pub place : ℕ
  pub within : place < length list
  pub reached : level mesh (slice_index_or list place (0, [])) ≡ greatest
  pub all : All (λ n. level mesh n ≤ greatest) list

-- the greatest level of all leaves
pub record IsDeepestLeaf (mesh : Shape) (old : Names) (deepest : ℕ) : Type 0 where
  pub leaf : Name
  pub is_leaf : IsLeaf mesh old leaf
  pub reached : level mesh leaf ≡ deepest
  pub greatest : (n : Name) → IsLeaf mesh old n → level mesh n ≤ deepest

-- the row's mark is above 0, and its bisections of the deepest leaf that it names lead down to this level, above 24
pub record IsTooDeep (mesh : Shape) (old : Names) (row : MarkRow) (deep : ℕ) : Type 0 where
  pub mark : is_mark row.what ≡ true
  pub positive : 0 < bisections row.number
  pub deepest : ℕ
  pub is_deepest : IsDeepest mesh old row deepest
  pub sum : deep ≡ deepest + bisections row.number
  pub above : 24 < deep

-- the row can be done: its element is a leaf, and a mark above 0 leads to no level above 24
pub record IsFine (mesh : Shape) (old : Names) (row : MarkRow) : Type 0 where
  pub leaf_named : NamesLeaf mesh old row
  pub within : is_mark row.what ≡ true → 0 < bisections row.number → (n : Name) → IsLeaf mesh old n → names_leaf row.place n ≡ true → level mesh n + bisections row.number ≤ 24

-- what one row is refused for: its element is no leaf, or else it goes too deep
abbrev pub IsRowFault : Shape → Names → MarkRow → RoundRefusal → Type 0
IsRowFault mesh old row (RoundsUsedUp rounds) = ⊥
IsRowFault mesh old row (NotALeaf r) = (r ≡ row.row) × (NamesLeaf mesh old row → ⊥)
IsRowFault mesh old row (LevelTooDeep r deep) = (r ≡ row.row) × NamesLeaf mesh old row × IsTooDeep mesh old row deep
IsRowFault mesh old row (PoolFull needed kept pool) = ⊥
IsRowFault mesh old row Memory = ⊥

-- the first row that cannot be done has this refusal
pub record IsFirstFault (mesh : Shape) (old : Names) (rows : List MarkRow) (refusal : RoundRefusal) : Type 0 where
  pub before : List MarkRow
  pub row : MarkRow
  pub after : List MarkRow
  pub split : rows ≡ before ++ row ∷ after
  pub fine : All (IsFine mesh old) before
  pub fault : IsRowFault mesh old row refusal

-- the first row that cannot be done has this refusal, or memory was wanting
abbrev pub IsRowsRefusal : Shape → Names → List MarkRow → RoundRefusal → Type 0
IsRowsRefusal mesh old rows (RoundsUsedUp rounds) = ⊥
IsRowsRefusal mesh old rows (NotALeaf row) = IsFirstFault mesh old rows (NotALeaf row)
IsRowsRefusal mesh old rows (LevelTooDeep row deep) = IsFirstFault mesh old rows (LevelTooDeep row deep)
IsRowsRefusal mesh old rows (PoolFull needed kept pool) = ⊥
IsRowsRefusal mesh old rows Memory = Unit {0}

-- the least conforming forest that holds the old one and all that the rows ask for
pub record IsRefined (mesh : Shape) (old : Names) (rows : List MarkRow) (new : Names) : Type 0 where
  pub needs : Names
  pub are_needs : AreNeeds mesh old rows needs
  pub least : IsLeast mesh old needs new

-- a conforming forest with no more patches than the pool has room for, of which it has 1 to 1,048,576
pub record Stands (mesh : Shape) (across : Across) (pool : ℕ) (members : Names) : Type 0 where
  pub forest : IsForest mesh members
  pub partners : HoldsPartners across members
  pub room : patch_count across members ≤ pool
  pub some : 1 ≤ pool
  pub most : pool ≤ 1048576

-- how many patches a forest may hold, and how many it keeps back of these
pub record Room : Type 0 where
  pub pool : ℕ
  pub kept : ℕ

-- a refined forest of so many patches needs as much of the pool
abbrev pub needs_room : Room → ℕ → ℕ
needs_room room patches = patches + room.kept

-- a round that was done: the rows refine the old forest, within the pool, and the refined forest is coarsened to the new one
pub record IsRound (mesh : Shape) (across : Across) (room : Room) (old : Names) (rows : List MarkRow) (new : Names) : Type 0 where
  pub fine : All (IsFine mesh old) rows
  pub refined : Names
  pub is_refined : IsRefined mesh old rows refined
  pub fits : needs_room room (patch_count across refined) ≤ room.pool
  pub coarsened : IsCoarsened across (marked_by mesh old rows refined) new

-- a round that was done, and what it changed: the patches that it bisected, and those that it took away
pub record IsRoundBy (mesh : Shape) (across : Across) (room : Room) (old : Names) (rows : List MarkRow) (new : Names) (delta : RoundDelta) : Type 0 where
  pub round : IsRound mesh across room old rows new
  pub born : AreBorn mesh across old round.refined delta.born.items
  pub died : AreDied mesh across round.refined new delta.died.items

-- all rows can be done, and the refined forest has this many patches
pub record NeedsPatches (mesh : Shape) (across : Across) (old : Names) (rows : List MarkRow) (patches : ℕ) : Type 0 where
  pub fine : All (IsFine mesh old) rows
  pub refined : Names
  pub is_refined : IsRefined mesh old rows refined
  pub count : patches ≡ patch_count across refined

-- when each refusal comes, where a round is left: the rows in order, and then the pool; want of memory may come at any place
abbrev pub IsRoundRefusal : Shape → Across → Room → Names → List MarkRow → RoundRefusal → Type 0
IsRoundRefusal mesh across room old rows (RoundsUsedUp rounds) = ⊥
IsRoundRefusal mesh across room old rows (NotALeaf row) = IsFirstFault mesh old rows (NotALeaf row)
IsRoundRefusal mesh across room old rows (LevelTooDeep row deep) = IsFirstFault mesh old rows (LevelTooDeep row deep)
IsRoundRefusal mesh across room old rows (PoolFull needed kept pool) =
    (patches : ℕ) × NeedsPatches mesh across old rows patches × (room.pool < needs_room room patches) × (needed ≡ min patches 4294967295) × (kept ≡ room.kept) × (pool ≡ room.pool)
IsRoundRefusal mesh across room old rows Memory = Unit {0}
