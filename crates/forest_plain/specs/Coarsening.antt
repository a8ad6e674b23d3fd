-- How coarsening goes on: what some steps have led to, and which patches may still be taken away.
use Rattle.std.specs.Prelude.{◌≡◌, false, List}
use Rattle.std.specs.FinSet.{contains, from_list}
use Rattle.mesh_names.specs.Names.{Name}
use Rattle.mesh_names.specs.Triangles.{Shape}
use Rattle.mesh_names.specs.Forests.{Has, IsForest}
use Rattle.mesh_names.specs.Partners.{Across, InPatch}
use Rattle.mesh_names.specs.Conformity.{HoldsPartners}
use Rattle.mesh_names.specs.Coarsening.{MarkedForest, CanCoarsen, AreSteps, after_steps, allowance}

-- two forests with the same members, and with leaves that may be coarsened equally often
pub record AreAlike (a b : MarkedForest) : Type 0 where
  pub forest : a.forest ≡ b.forest
  pub leaves : (n : Name) → contains a.forest n ≡ false → allowance (a.marks n) ≡ allowance (b.marks n)

-- each patch that can be taken away has a pending member
abbrev pub AllPending : Across → MarkedForest → List Name → Type 0
AllPending x now pending = (p : Name) → CanCoarsen x now p → (q : Name) × InPatch x p q × Has (from_list pending) q

-- no member has a mark below 0
abbrev pub IsUnmarked : MarkedForest → Type 0
IsUnmarked now = (n : Name) → Has now.forest n → allowance (now.marks n) ≡ 0

-- a conforming forest that is still to be coarsened where patches are pending
pub record IsUnderway (mesh : Shape) (x : Across) (now : MarkedForest) (waiting : List Name) : Type 0 where
  pub forest : IsForest mesh now.forest
  pub partners : HoldsPartners x now.forest
  pub unmarked : IsUnmarked now
  pub pending : AllPending x now waiting

-- steps lead to it from the first
pub record IsReached (x : Across) (first now : MarkedForest) : Type 0 where
  pub steps : List Name
  pub are_steps : AreSteps x steps first
  pub alike : AreAlike (after_steps x steps first) now
