-- What a pass of the second half knows of the last finished round.
use Rattle.std.specs.Prelude.{◌≡◌, ℕ, Bool, List, ◌++◌}
use Rattle.mesh_names.specs.Names.{Name}
use Rattle.table_words.specs.Entries.{HasEntry}
use Rattle.table_words.specs.NameWords.{name_code}
use Rattle.table_words.specs.Places.{child_place}
use Rattle.table_words.specs.Setup.{Setup}
use Rattle.mesh_table.specs.Sights.{Sight}

-- v knows all that u did of the finished round and of what is open, and has its claims
pub record StillKnows (u v : Sight) : Type 0 where
  pub kind : v.kind ≡ u.kind
  pub claims : v.claims ≡ u.claims
  pub owned : v.owned ≡ u.owned
  pub read : v.read ≡ u.read
  pub half : v.work.half ≡ u.work.half
  pub round : v.work.round ≡ u.work.round
  pub number : v.work.number ≡ u.work.number
  pub plan : v.work.plan ≡ u.work.plan
  pub retired : (a : ℕ) → HasEntry u.work.retired a → HasEntry v.work.retired a
  pub stood : (a : ℕ × ℕ) → HasEntry u.work.stood a → HasEntry v.work.stood a
  pub had : (a : ℕ × ℕ) → HasEntry u.work.had a → HasEntry v.work.had a
  pub open_ : (a : ℕ) → HasEntry u.work.open_ a → HasEntry v.work.open_ a
  pub absent : (a : ℕ) → HasEntry u.work.absent a → HasEntry v.work.absent a

-- the pass retired nothing meanwhile
abbrev pub NothingRetired : Sight → Sight → Type 0
NothingRetired u v = (v.work.retired ≡ u.work.retired) × (v.work.given ≡ u.work.given)

-- the last finished round bisects the name k by the member t of the block, and its children's places are found
abbrev pub Has : Setup → Sight → ℕ → ℕ → Bool → Type 0
Has s v k b t = HasEntry v.work.had (b, k) × ((u : Bool) → HasEntry v.work.stood (child_place s.elements b t u, s.child k u))

-- the last finished round has not the name or one above it
abbrev pub AbsentAbove : Sight → Name → Type 0
AbsentAbove v n = (u w : List Bool) × (n.1 ≡ u ++ w) × HasEntry v.work.absent (name_code (n.0, w))
