-- The least forest by chains: what a needed name brings with it.
use Rattle.std.specs.Prelude.{◌⊎◌, ◌↔◌}
use Rattle.mesh_names.specs.Names.{Name}
use Rattle.mesh_names.specs.Triangles.{Shape}
use Rattle.mesh_names.specs.Forests.{Names, Has, IsForest, Conforms}
use Rattle.mesh_names.specs.LeastForest.{CanHold, least_forest}
use Rattle.mesh_names.specs.Chains.{chain_of}
use Rattle.mesh_names.specs.Partners.{Across, Tells, InPatch}

-- n is of the patch of a name in the chain of q
abbrev pub IsBroughtBy : Shape → Across → Name → Name → Type 0
IsBroughtBy mesh x q n = (c : Name) × Has (chain_of mesh x q) c × InPatch x c n

-- the law that the least forest has the old names, and the patches of the chains of the needed ones
abbrev pub LeastByChains : Type 0
LeastByChains = (mesh : Shape) (x : Across) → Tells mesh x → (old needs : Names) → IsForest mesh old → Conforms mesh old → CanHold mesh needs → (n : Name) →
    (Has (least_forest mesh x old needs) n ↔ (Has old n ⊎ ((q : Name) × Has needs q × IsBroughtBy mesh x q n)))
