-- Walks up from a name by pairs of its letters, and what stands below another name as it does below this one.
use Rattle.std.specs.Prelude.{◌≡◌, ℕ, zero, suc, Bool, true, false, cond, not, List, [], ◌∷◌, ◌++◌, map, Option, Some, None}
use Rattle.mesh_names.specs.Names.{Name}
use Rattle.mesh_names.specs.Triangles.{Vertex, Triangle}
use Rattle.mesh_names.specs.Partners.{Across, partner}

-- the name below another by these letters, or by the other ones where the edge is turned
abbrev pub moved : List Bool → Bool → Name → Name
moved v turned m = (m.0, cond turned (map not v) v ++ m.1)

-- what lies across, so many letters further down
abbrev pub lifted : List Bool → Option (Name × Bool) → Option (Name × Bool)
lifted v None = None
lifted v (Some m) = Some (moved v m.1 m.0, m.1)

-- m is above n, or the same, and its partner tells that of n by the letters between
pub record Climbs (n m : Name) : Type 0 where
  pub passed : List Bool
  pub below : n ≡ (m.0, passed ++ m.1)
  pub tells : (x : Across) → partner x n.0 n.1 ≡ lifted passed (partner x m.0 m.1)

-- the last two letters do not differ: a climb ends
abbrev pub IsEnd : List Bool → Type 0
IsEnd [] = Unit {0}
IsEnd (c ∷ []) = Unit {0}
IsEnd (false ∷ false ∷ w) = Unit {0}
IsEnd (true ∷ true ∷ w) = Unit {0}
IsEnd (true ∷ false ∷ w) = ⊥
IsEnd (false ∷ true ∷ w) = ⊥

-- the corner of a triangle with this number
abbrev pub vertex_at : Triangle → ℕ → Vertex
vertex_at t zero = t.0
vertex_at t (suc zero) = t.1
vertex_at t (suc (suc k)) = t.2

-- which corner of the parent a corner of a child is, where it is not the newest
abbrev pub place_above : ℕ → Bool → ℕ
place_above zero false = 2
place_above zero true = 1
place_above (suc k) false = 0
place_above (suc k) true = 2
