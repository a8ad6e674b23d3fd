-- The leaves of a forest, as a set.
use Rattle.std.specs.Prelude.{ℕ, zero, suc, true, false, List, [], ◌∷◌, ◌++◌, ◌↔◌}
use Rattle.std.specs.FinSet.{difference, from_list, items}
use Rattle.mesh_names.specs.Names.{Name}
use Rattle.mesh_names.specs.Triangles.{Shape, size}
use Rattle.mesh_names.specs.Forests.{Names, Has, IsForest, IsLeaf}

-- the names of the first macro elements
abbrev pub tops : ℕ → List Name
tops zero = []
tops (suc k) = tops k ++ (k, []) ∷ []

-- both children of each name
abbrev pub children : List Name → List Name
children [] = []
children (n ∷ ns) = (n.0, false ∷ n.1) ∷ (n.0, true ∷ n.1) ∷ children ns

-- the macro elements and the members' children that are not members
abbrev pub leaves : Shape → Names → Names
leaves mesh members = difference (from_list (tops (size mesh) ++ children (items members))) members

-- the law that this set has the leaves of a forest, and no others
abbrev pub LeavesAre : Type 0
LeavesAre = (mesh : Shape) (members : Names) → IsForest mesh members → (n : Name) → (Has (leaves mesh members) n ↔ IsLeaf mesh members n)
