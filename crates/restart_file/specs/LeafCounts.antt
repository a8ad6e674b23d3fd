-- How many leaves a forest has, and the overlay of two.
use Rattle.std.specs.Prelude.{◌≡◌, ℕ, ◌+◌, ◌≤◌, List, length}
use Rattle.mesh_names.specs.Names.{Name}
use Rattle.mesh_names.specs.Triangles.{Shape, size}
use Rattle.mesh_names.specs.Forests.{IsListOf}
use Rattle.mesh_names.specs.Leaves.{leaves}
use Rattle.restart_file.specs.Kept.{IsKept, set_of}

-- the forest with these members has so many leaves
abbrev pub HasLeaves : Shape → List Name → ℕ → Type 0
HasLeaves mesh members count = (list : List Name) × IsListOf (leaves mesh (set_of members)) list × (count ≡ length list)

-- a forest has at most as many leaves as two others together less the macro elements
abbrev pub HasFewLeaves : Shape → List Name → List Name → List Name → Type 0
HasFewLeaves mesh first second members = (one other count : ℕ) → HasLeaves mesh first one → HasLeaves mesh second other → HasLeaves mesh members count → count + size mesh ≤ one + other

-- the law that a forest has a leaf for each macro element and one more for each member
abbrev pub LeavesAreCounted : Type 0
LeavesAreCounted = (mesh : Shape) (members : List Name) (count : ℕ) → IsKept mesh members → HasLeaves mesh members count → count ≡ size mesh + length members
