-- Needs, the least forest that holds them, and its making by levels.
use Rattle.std.specs.Prelude.{◌≡◌, ℕ, zero, suc, ◌+◌, ◌<◌, ◌≤◌, Bool, true, false, cond, eqb, List, [], ◌∷◌, ◌++◌, length, Option, None, option_map, filter_map, ◌⊎◌, ◌↔◌}
use Rattle.std.specs.FinSet.{empty, union, from_list, items}
use Rattle.mesh_names.specs.Names.{Name, parent_of}
use Rattle.mesh_names.specs.Triangles.{Shape, size, level}
use Rattle.mesh_names.specs.Forests.{Names, Has, Within, IsForest, Conforms}
use Rattle.mesh_names.specs.Partners.{Across, Tells, partner}

-- leaves, and how often each is to be bisected
abbrev pub Work : Type 0
Work = List (Name × ℕ)

-- n lies at or below a leaf of the work, by fewer letters than the leaf is to be bisected
abbrev pub IsAsked : Work → Name → Type 0
IsAsked [] n = ⊥
IsAsked (a ∷ work) n = ((u : List Bool) × (length u < a.1) × (n ≡ (a.0.0, u ++ a.0.1))) ⊎ IsAsked work n

-- the names at and below (r, w) with fewer than k letters more
unfoldable pub names_below : ℕ → ℕ → List Bool → List Name
names_below zero r w = []
names_below (suc k) r w = (r, w) ∷ (names_below k r (false ∷ w) ++ names_below k r (true ∷ w))

-- all names at and below the leaves of the work that are asked for
abbrev pub needs_of : Work → Names
needs_of [] = empty
needs_of (a ∷ work) = union (from_list (names_below a.1 a.0.0 a.0.1)) (needs_of work)

-- each leaf of the work is of the mesh, and none is to be bisected beyond level 24
abbrev pub Reaches : Shape → Work → Type 0
Reaches mesh [] = Unit {0}
Reaches mesh (a ∷ work) = (a.0.0 < size mesh) × (level mesh a.0 + a.1 ≤ 24) × Reaches mesh work

-- names that a forest can hold
pub record CanHold (mesh : Shape) (names : Names) : Type 0 where
  pub rooted : (n : Name) → Has names n → n.0 < size mesh
  pub shallow : (n : Name) → Has names n → level mesh n ≤ 23

-- the least conforming forest that holds the old one and the needs
pub record IsLeast (mesh : Shape) (old needs new : Names) : Type 0 where
  pub forest : IsForest mesh new
  pub conforms : Conforms mesh new
  pub holds_old : Within old new
  pub holds_needs : Within needs new
  pub least : (other : Names) → IsForest mesh other → Conforms mesh other → Within old other → Within needs other → Within new other

-- the set, with what this gives for its members
abbrev pub grown_by : (Name → Option Name) → Names → Names
grown_by f names = union names (from_list (filter_map f (items names)))

-- the partner of a name of this level
abbrev pub partner_at : Shape → Across → ℕ → Name → Option Name
partner_at mesh x l n = cond (eqb (level mesh n) l) (option_map (λ (m : Name × Bool). m.0) (partner x n.0 n.1)) None

-- the parent of a name of this level
abbrev pub parent_at : Shape → ℕ → Name → Option Name
parent_at mesh l n = cond (eqb (level mesh n) l) (option_map (λ (w : List Bool). (n.0, w)) (parent_of n.1)) None

-- going through the levels below l, from the greatest down: at each first the partners of its names are added, and then the parents of its names
unfoldable pub closed_below : Shape → Across → ℕ → Names → Names
closed_below mesh x zero names = names
closed_below mesh x (suc l) names = closed_below mesh x l (grown_by (parent_at mesh l) (grown_by (partner_at mesh x l) names))

-- the least forest that holds the old one and the needs, got level by level
abbrev pub least_forest : Shape → Across → Names → Names → Names
least_forest mesh x old needs = closed_below mesh x 24 (union old needs)

-- the law that the set of needs has the needed names
abbrev pub NeedsAre : Type 0
NeedsAre = (work : Work) (n : Name) → (Has (needs_of work) n ↔ IsAsked work n)

-- the law that needs within level 24 can be held
abbrev pub NeedsCanBeHeld : Type 0
NeedsCanBeHeld = (mesh : Shape) (work : Work) → Reaches mesh work → CanHold mesh (needs_of work)

-- the law that the least forest is got by levels
abbrev pub LeastByLevels : Type 0
LeastByLevels = (mesh : Shape) (x : Across) → Tells mesh x → (old needs : Names) → CanHold mesh old → CanHold mesh needs → IsLeast mesh old needs (least_forest mesh x old needs)

-- the law that there is exactly one least forest
abbrev pub LeastIsOne : Type 0
LeastIsOne = (mesh : Shape) (x : Across) → Tells mesh x → (old needs : Names) → CanHold mesh old → CanHold mesh needs → (new : Names) × IsLeast mesh old needs new × ((other : Names) → IsLeast mesh old needs other → other ≡ new)

-- the law that a conforming forest which holds what is needed is itself the least, and alone so
abbrev pub LeastKeeps : Type 0
LeastKeeps = (mesh : Shape) (old needs : Names) → IsForest mesh old → Conforms mesh old → Within needs old → IsLeast mesh old needs old × ((new : Names) → IsLeast mesh old needs new → new ≡ old)
