-- One turn of coarsening: the patch of a pending name is taken away, where it can be.
use Rattle.std.specs.Prelude.{ℕ, ◌+◌, ◌*◌, ◌≤◌, List, length}
use Rattle.std.specs.FinSet.{len}
use Rattle.mesh_names.specs.Names.{Name}
use Rattle.mesh_names.specs.Triangles.{Shape}
use Rattle.mesh_names.specs.Partners.{Across}
use Rattle.mesh_names.specs.Coarsening.{MarkedForest}
use Rattle.forest_plain.specs.Coarsening.{IsReached, IsUnderway}

-- how many turns may still come: a patch that goes brings two pending names at the most
abbrev pub turns_left : MarkedForest → List Name → ℕ
turns_left now pending = 3 * len now.forest + length pending

-- what is still to be done after a turn
pub record IsTried (mesh : Shape) (x : Across) (old new : MarkedForest) (before after : List Name) : Type 0 where
  pub underway : IsUnderway mesh x new after
  pub reached : (first : MarkedForest) → IsReached x first old → IsReached x first new
  pub fewer : turns_left new after ≤ turns_left old before
