-- The chain of a name: what a conforming forest that holds the name has to hold above it.
use Rattle.std.specs.Prelude.{◌≡◌, ℕ, zero, suc, ◌<◌, Bool, List, [], ◌∷◌, ◌++◌, Option, Some, None, ◌⊎◌}
use Rattle.std.specs.FinSet.{from_list}
use Rattle.mesh_names.specs.Names.{Name}
use Rattle.mesh_names.specs.Triangles.{Shape, size, level}
use Rattle.mesh_names.specs.Forests.{Names, Has, Within, IsForest, Conforms}
use Rattle.mesh_names.specs.Partners.{Across, Tells, partner}

-- the set holds the name, and with each of its names the parent, and the parent of the partner
pub record IsClosedAbove (x : Across) (n : Name) (names : Names) : Type 0 where
  pub holds : Has names n
  pub parents : (r : ℕ) (b : Bool) (w : List Bool) → Has names (r, b ∷ w) → Has names (r, w)
  pub partner_parents : (m : Name) (s : ℕ) (b : Bool) (w : List Bool) (t : Bool) → Has names m → partner x m.0 m.1 ≡ Some ((s, b ∷ w), t) → Has names (s, w)

-- the least such set
pub record IsChain (x : Across) (n : Name) (chain : Names) : Type 0 where
  pub closed : IsClosedAbove x n chain
  pub least : (other : Names) → IsClosedAbove x n other → Within chain other

-- what g gives for the parent of a name, if there is one
abbrev pub at_parent : (Name → List Name) → ℕ → List Bool → List Name
at_parent g r [] = []
at_parent g r (b ∷ w) = g (r, w)

-- what g gives for the parent of the partner, if there is one
abbrev pub at_partner_parent : (Name → List Name) → Option (Name × Bool) → List Name
at_partner_parent g None = []
at_partner_parent g (Some m) = at_parent g m.0.0 m.0.1

-- the chain of a name whose level is at most k, as a list in which a name may stand more than once
unfoldable pub chain_list : Across → ℕ → Name → List Name
chain_list x zero n = n ∷ []
chain_list x (suc k) n = n ∷ (at_parent (chain_list x k) n.0 n.1 ++ at_partner_parent (chain_list x k) (partner x n.0 n.1))

-- the chain of a name, as a set
abbrev pub chain_of : Shape → Across → Name → Names
chain_of mesh x n = from_list (chain_list x (level mesh n) n)

-- the name has a chain, all of whose other names are of smaller levels
pub record ChainStands (mesh : Shape) (x : Across) (n : Name) : Type 0 where
  pub chain : IsChain x n (chain_of mesh x n)
  pub rooted : (m : Name) → Has (chain_of mesh x n) m → m.0 < size mesh
  pub lower : (m : Name) → Has (chain_of mesh x n) m → (m ≡ n) ⊎ (level mesh m < level mesh n)

-- the law that each name of the mesh has such a chain
abbrev pub ChainsStand : Type 0
ChainsStand = (mesh : Shape) (x : Across) → Tells mesh x → (n : Name) → n.0 < size mesh → ChainStands mesh x n

-- the law that the chain of a name lies in each conforming forest that holds the name
abbrev pub ChainWithin : Type 0
ChainWithin = (mesh : Shape) (x : Across) → Tells mesh x → (members : Names) → IsForest mesh members → Conforms mesh members → (n : Name) → Has members n → Within (chain_of mesh x n) members
