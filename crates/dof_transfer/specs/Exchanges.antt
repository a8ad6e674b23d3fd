-- Refinement and coarsening of elements: which names give their indices back, and which take one, in which order and with which values.
use Rattle.std.specs.Prelude.{◌≡◌, ◌≢◌, ℕ, ◌<◌, ◌≤◌, ◌/◌, ℤ, pos, negsuc, ◌+ℤ◌, ◌-ℤ◌, Bool, true, false, cond, eqb, List, [], ◌∷◌, ◌++◌, length, map, slice_index_or, Option, Some, None, IfSome, unwrap_or}
use Rattle.mesh_names.specs.Names.{Name, depth}
use Rattle.mesh_names.specs.Triangles.{Shape, level}
use Rattle.mesh_names.specs.declared.patch.PatchName.{PatchName}
use Rattle.dof_transfer.specs.Held.{Held, value_of, all_given_back, all_taken}

-- half, rounded down
abbrev pub floor_half : ℤ → ℤ
floor_half (pos n) = pos (n / 2)
floor_half (negsuc n) = negsuc (n / 2)

-- the part of a parent's value that child 0 or child 1 takes
abbrev pub part : Bool → ℤ → ℤ
part false v = floor_half v
part true v = v -ℤ floor_half v

-- the value of a live name, and 0 of any other
abbrev pub value_in : Held → Name → ℤ
value_in held n = unwrap_or (value_of held n) (pos 0)

-- a patch of one or two elements that can be bisected
pub record IsPair (p : PatchName) : Type 0 where
  pub first : depth p.first < 24
  pub second : IfSome p.second (λ m. (depth m < 24) × (m ≢ p.first))

-- the members of a patch, and of several
abbrev pub listed : Option Name → List Name
listed None = []
listed (Some m) = m ∷ []

abbrev pub members_of : PatchName → List Name
members_of p = p.first ∷ listed p.second

abbrev pub all_members : List PatchName → List Name
all_members [] = []
all_members (p ∷ ps) = members_of p ++ all_members ps

-- a name's child
abbrev pub child : Bool → Name → Name
child b n = (n.0, b ∷ n.1)

-- the children of each name
abbrev pub children : List Name → List Name
children [] = []
children (n ∷ ns) = child false n ∷ child true n ∷ children ns

-- the children of each name, with the parts of its value
abbrev pub halves : Held → List Name → List (Name × ℤ)
halves held [] = []
halves held (n ∷ ns) = (child false n, part false (value_in held n)) ∷ (child true n, part true (value_in held n)) ∷ halves held ns

-- the sum of a name's children's values
abbrev pub sum_in : Held → Name → ℤ
sum_in held n = value_in held (child false n) +ℤ value_in held (child true n)

-- names with values, one by one
abbrev pub with_values : List Name → List ℤ → List (Name × ℤ)
with_values [] vs = []
with_values (n ∷ ns) [] = []
with_values (n ∷ ns) (v ∷ vs) = (n, v) ∷ with_values ns vs

-- the members of a patch give theirs back, and then their children take one each
abbrev pub bisected : Held → PatchName → Held
bisected held p = all_taken (all_given_back held (members_of p)) (halves held (members_of p))

-- the children of all members give theirs back, and then the members take one each
abbrev pub coarsened : Held → List Name → Held
coarsened held ns = all_taken (all_given_back held (children ns)) (with_values ns (map (sum_in held) ns))

-- born patches in order
abbrev pub all_bisected : Held → List PatchName → Held
all_bisected held [] = held
all_bisected held (p ∷ ps) = all_bisected (bisected held p) ps

-- the first names of one level go with the next ones of that level
abbrev pub joined : Shape → Name → List (List Name) → List (List Name)
joined mesh n [] = (n ∷ []) ∷ []
joined mesh n ([] ∷ runs) = (n ∷ []) ∷ runs
joined mesh n ((m ∷ run) ∷ runs) = cond (eqb (level mesh n) (level mesh m)) ((n ∷ m ∷ run) ∷ runs) ((n ∷ []) ∷ (m ∷ run) ∷ runs)

-- names, cut where their level changes
abbrev pub by_level : Shape → List Name → List (List Name)
by_level mesh [] = []
by_level mesh (n ∷ ns) = joined mesh n (by_level mesh ns)

-- the names from one place to another are of one level, and the next one, if there is any, is of another
pub record IsRun (mesh : Shape) (names : List Name) (at end : ℕ) : Type 0 where
  pub some : at < end
  pub within : end ≤ length names
  pub same : (k : ℕ) → at ≤ k → k < end → level mesh (slice_index_or names k (0, [])) ≡ level mesh (slice_index_or names at (0, []))
  pub other : end < length names → level mesh (slice_index_or names end (0, [])) ≢ level mesh (slice_index_or names at (0, []))

-- died patches level by level
abbrev pub all_coarsened : Held → List (List Name) → Held
all_coarsened held [] = held
all_coarsened held (ns ∷ runs) = all_coarsened (coarsened held ns) runs

-- what is held after a round's patches
abbrev pub element_change : Shape → Held → List PatchName → List PatchName → Held
element_change mesh held born died = all_coarsened (all_bisected held born) (by_level mesh (all_members died))
