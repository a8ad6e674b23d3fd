-- A forest, as contracts see it, and what a round on it answers.
use Rattle.std.specs.Prelude.{◌≡◌, ◌⊎◌, ℕ, ◌-◌, Bool, false, List, Option, Some, None}
use Rattle.mesh_names.specs.Triangles.{Shape}
use Rattle.mesh_names.specs.Partners.{Across}
use Rattle.mesh_names.specs.Forests.{Names}
use Rattle.mesh_names.specs.declared.patch.RoundDelta.{RoundDelta}
use Rattle.mesh_names.specs.declared.rows.MarkRow.{MarkRow}
use Rattle.forest_plain.specs.Rounds.{IsRoundBy, IsRoundRefusal, Room}
use Rattle.forest_plain.specs.declared.refusal.RoundRefusal.{RoundRefusal}
use Rattle.forest_plain.specs.declared.refusal.RoundRefusal.TheVariants.{RoundsUsedUp, NotALeaf, LevelTooDeep, PoolFull, Memory}

-- the bisected elements, how many patches there may be, the rounds that are left and those that the forest was made for, where they are limited, whether a round is open, and the triples and grades of the macro mesh with what lies across its edges
pub record Seen : Type 0 where
  pub members : Names
  pub pool : ℕ
  pub left : Option ℕ
  pub made_for : ℕ
  pub is_open : Bool
  pub mesh : Shape
  pub sides : Across

-- the rounds are limited, and none is left
abbrev pub IsUsedUp : Seen → Type 0
IsUsedUp forest = forest.left ≡ Some 0

-- how many rounds are left after one more, where they are limited
abbrev pub one_fewer : Option ℕ → Option ℕ
one_fewer None = None
one_fewer (Some left) = Some (left - 1)

-- the pool, less what is kept back
abbrev pub room_in : Seen → ℕ → Room
room_in forest kept = record { pool = forest.pool; kept = kept }

-- what stays through each round: the pool, the number of rounds that the forest was made for, and the macro mesh
pub record KeepsRest (old new : Seen) : Type 0 where
  pub pool : new.pool ≡ old.pool
  pub made_for : new.made_for ≡ old.made_for
  pub mesh : new.mesh ≡ old.mesh
  pub sides : new.sides ≡ old.sides

-- a round that was done where so many patches were kept back, and what it changed
pub record IsDone (old : Seen) (kept : ℕ) (rows : List MarkRow) (new : Seen) (delta : RoundDelta) : Type 0 where
  pub left : IsUsedUp old → ⊥
  pub round : IsRoundBy old.mesh old.sides (room_in old kept) old.members rows new.members delta
  pub fewer : new.left ≡ one_fewer old.left
  pub closed : new.is_open ≡ false
  pub rest : KeepsRest old new

-- when each refusal comes: where no round is left, and else by the rows in order and then by the pool; want of memory may come at any place
abbrev pub IsRefusal : Seen → ℕ → List MarkRow → RoundRefusal → Type 0
IsRefusal forest kept rows (RoundsUsedUp rounds) = IsUsedUp forest × (rounds ≡ forest.made_for)
IsRefusal forest kept rows (NotALeaf row) = (IsUsedUp forest → ⊥) × IsRoundRefusal forest.mesh forest.sides (room_in forest kept) forest.members rows (NotALeaf row)
IsRefusal forest kept rows (LevelTooDeep row deep) = (IsUsedUp forest → ⊥) × IsRoundRefusal forest.mesh forest.sides (room_in forest kept) forest.members rows (LevelTooDeep row deep)
IsRefusal forest kept rows (PoolFull needed back pool) = (IsUsedUp forest → ⊥) × IsRoundRefusal forest.mesh forest.sides (room_in forest kept) forest.members rows (PoolFull needed back pool)
IsRefusal forest kept rows Memory = Unit {0}

-- the law that a round that can be done is refused for want of memory alone
abbrev pub DoneOrRefused : Type 0
DoneOrRefused = (old new : Seen) (kept : ℕ) (rows : List MarkRow) (delta : RoundDelta) (refusal : RoundRefusal) → IsDone old kept rows new delta → IsRefusal old kept rows refusal → refusal ≡ Memory

-- the law that a round has one refusal at the most, but for want of memory
abbrev pub OneRefusal : Type 0
OneRefusal = (forest : Seen) (kept : ℕ) (rows : List MarkRow) (r s : RoundRefusal) → IsRefusal forest kept rows r → IsRefusal forest kept rows s → (r ≡ Memory) ⊎ (s ≡ Memory) ⊎ (r ≡ s)
