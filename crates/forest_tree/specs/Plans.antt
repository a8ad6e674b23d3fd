-- What a round leads to, before the forest is changed.
use Rattle.std.specs.Prelude.{◌≡◌, ℕ, List}
use Rattle.std.specs.FinSet.{difference, from_list, union}
use Rattle.mesh_names.specs.Triangles.{Shape}
use Rattle.mesh_names.specs.Partners.{Across}
use Rattle.mesh_names.specs.Forests.{Names}
use Rattle.mesh_names.specs.Patches.{patch_count}
use Rattle.mesh_names.specs.Coarsening.{IsCoarsened, MarkedForest}
use Rattle.mesh_names.specs.declared.rows.MarkRow.{MarkRow}
use Rattle.forest_plain.specs.Coarsening.{IsReached}
use Rattle.forest_plain.specs.Deltas.{AreBorn, AreDied}
use Rattle.forest_plain.specs.LeafMarks.{marked_so}
use Rattle.forest_plain.specs.Rounds.{IsRoundBy, Room}
use Rattle.forest_tree.specs.declared.plan.Plan.{Plan}
use Rattle.forest_tree.specs.declared.refining.Refinement.{Refinement}

-- the members after the round
abbrev pub planned : Names → Plan → Names
planned old plan = difference (union old (from_list plan.fresh.items)) (from_list plan.gone.items)

-- the pool, of which nothing is kept back
abbrev pub room_of : ℕ → Room
room_of pool = record { pool = pool; kept = 0 }

-- a round that can be done, and what it changes
pub record IsPlan (mesh : Shape) (across : Across) (pool : ℕ) (old : Names) (rows : List MarkRow) (plan : Plan) : Type 0 where
  pub round : IsRoundBy mesh across (room_of pool) old rows (planned old plan) plan.delta
  pub counted : plan.patches ≡ patch_count across (planned old plan)

-- a refined forest, coarsened, and what this changes
pub record IsChange (mesh : Shape) (across : Across) (old : Names) (refinement : Refinement) (plan : Plan) : Type 0 where
  pub coarsened : (first : MarkedForest) → IsReached across first (marked_so (union old refinement.fresh) refinement.marks) → IsCoarsened across first (planned old plan)
  pub born : AreBorn mesh across old (union old refinement.fresh) plan.delta.born.items
  pub died : AreDied mesh across (union old refinement.fresh) (planned old plan) plan.delta.died.items
  pub counted : plan.patches ≡ patch_count across (planned old plan)
