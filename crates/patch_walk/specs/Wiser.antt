-- What a pass keeps while it learns.
use Rattle.std.specs.Prelude.{◌≡◌, ℕ, Bool}
use Rattle.table_words.specs.Entries.{HasEntry}
use Rattle.table_words.specs.Places.{child_place}
use Rattle.table_words.specs.Setup.{Setup}
use Rattle.mesh_table.specs.Sights.{Sight}

-- v knows all that u did of the work, and has its claims
pub record Wiser (u v : Sight) : Type 0 where
  pub kind : v.kind ≡ u.kind
  pub claims : v.claims ≡ u.claims
  pub owned : v.owned ≡ u.owned
  pub half : v.work.half ≡ u.work.half
  pub round : v.work.round ≡ u.work.round
  pub number : v.work.number ≡ u.work.number
  pub plan : v.work.plan ≡ u.work.plan
  pub found : (a : ℕ × ℕ) → HasEntry u.work.found a → HasEntry v.work.found a
  pub known : (a : ℕ) → HasEntry u.work.known a → HasEntry v.work.known a
  pub absent : (a : ℕ) → HasEntry u.work.absent a → HasEntry v.work.absent a

-- the name k is known as bisected by a member of the block, and its children are found there
abbrev pub KnowsBisected : Setup → Sight → ℕ → ℕ → Bool → Type 0
KnowsBisected s v k b t = HasEntry v.work.known k × ((u : Bool) → HasEntry v.work.found (child_place s.elements b t u, s.child k u))
