-- A forest is conforming exactly where it holds the partner of each member that has one.
use Rattle.std.specs.Prelude.{◌≡◌, ℕ, Bool, List, Some, ◌↔◌}
use Rattle.mesh_names.specs.Names.{Name}
use Rattle.mesh_names.specs.Triangles.{Shape}
use Rattle.mesh_names.specs.Forests.{Names, Has, IsForest, Conforms}
use Rattle.mesh_names.specs.Partners.{Across, Tells, partner}

-- each member's partner, if it has one, is a member
abbrev pub HoldsPartners : Across → Names → Type 0
HoldsPartners across members = (r : ℕ) (w : List Bool) (m : Name) (t : Bool) → Has members (r, w) → partner across r w ≡ Some (m, t) → Has members m

-- the law that conforming over triangles is closed under partners over names
abbrev pub ConformsByPartners : Type 0
ConformsByPartners = (mesh : Shape) (across : Across) → Tells mesh across → (members : Names) → IsForest mesh members → (Conforms mesh members ↔ HoldsPartners across members)
