-- What the owner is told of the claims of passes that were joined.
use Rattle.std.specs.Prelude.{◌≡◌, ℕ, ◌+◌, ◌<◌, List, length}
use Rattle.table_words.specs.Claims.{Failed, Living, claim}
use Rattle.table_words.specs.Entries.{HasEntry}
use Rattle.table_words.specs.Setup.{Setup}
use Rattle.table_state.specs.DrawLaws.{Enumerates, IsFirst, IsHeldBack}
use Rattle.table_state.specs.Inside.{ListedOnce}
use Rattle.mesh_table.specs.Holds.{Sat}
use Rattle.mesh_table.specs.Sights.{Sight}

-- the patches of the round's target and the blocks that are held back are more than the pool has
abbrev pub IsTooLarge : Setup → Sight → Type 0
IsTooLarge s v = (goal held : List ℕ) → Enumerates (IsFirst s v.ruling.plan.target) goal → Enumerates (IsHeldBack v.ruling) held
    → s.pool < length goal + length held

-- no two claims of the view are of one place, or have one living block, which is of the pool; and a claim has no block only where the round is too large
pub record ClaimsTold (s : Setup) (v : Sight) : Type 0 where
  pub once : ListedOnce v.claims
  pub apart : (x y m i b : ℕ) → HasEntry v.claims (claim x m (Living b)) → HasEntry v.claims (claim y i (Living b)) → x ≡ y
  pub room : (x m b : ℕ) → HasEntry v.claims (claim x m (Living b)) → b < s.pool
  pub fits : (x m : ℕ) → HasEntry v.claims (claim x m Failed) → IsTooLarge s v

-- the load changes nothing
abbrev pub claims_told : Setup → Sat → ℕ → Sat → Type 0
claims_told s m n m' = (m' ≡ m) × ClaimsTold s m.0
