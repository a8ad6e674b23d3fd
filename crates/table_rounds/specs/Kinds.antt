-- The kinds of blocks that the owner has noted, and where they stand.
use Rattle.std.specs.Prelude.{◌≡◌, ℕ, ◌+◌, Bool, ◌++◌}
use Rattle.table_words.specs.Claims.{Living, claim}
use Rattle.table_words.specs.Entries.{HasEntry}
use Rattle.table_state.specs.Ghosts.{Placed, stands}
use Rattle.mesh_table.specs.Holds.{Sat}
use Rattle.mesh_table.specs.Sights.{Sight}
use Rattle.table_rounds.specs.Versions.{IsRooted}

-- the block was retired in the current round
abbrev pub IsRetired : Sight → ℕ → Type 0
IsRetired v b = HasEntry (v.work.retired ++ v.ruling.retired) b

-- a block is of one kind alone: free and in the hand, kept, rolled back, or retired in the round; and it stands at one or two places
pub record BlocksTold (e : ℕ) (v : Sight) : Type 0 where
  pub hand_kept : (b : ℕ) → HasEntry v.ruling.hand b → HasEntry v.ruling.kept b → ⊥
  pub hand_back : (b : ℕ) → HasEntry v.ruling.hand b → HasEntry v.ruling.rolled_back b → ⊥
  pub kept_back : (b : ℕ) → HasEntry v.ruling.kept b → HasEntry v.ruling.rolled_back b → ⊥
  pub retired_kept : (b : ℕ) → IsRetired v b → HasEntry v.ruling.kept b → ⊥
  pub retired_back : (b : ℕ) → IsRetired v b → HasEntry v.ruling.rolled_back b → ⊥
  -- one that was retired in the round is noted with its places
  pub retired_placed : (b : ℕ) → IsRetired v b → (y m : ℕ) × HasEntry v.ruling.placed (b, y, m)
  pub once : (b y m z i : ℕ) → HasEntry v.ruling.placed (b, y, m) → HasEntry v.ruling.placed (b, z, i) → (y ≡ z) × (m ≡ i)
  -- a claim's block is noted at the claim's places alone, and is in no list
  pub claimed : (b y m z i : ℕ) → HasEntry v.claims (claim y m (Living b)) → HasEntry v.ruling.placed (b, z, i) → (y ≡ z) × (m ≡ i)
  pub claimed_back : (b y m : ℕ) → HasEntry v.claims (claim y m (Living b)) → HasEntry v.ruling.rolled_back b → ⊥
  -- the places of retired blocks are macro elements' and those of children of noted blocks
  pub rooted : (b y m x : ℕ) (t : Bool) → IsRetired v b → HasEntry v.ruling.placed (b, y, m) → stands (Placed y m) t ≡ x + 1 → IsRooted e v x

abbrev pub blocks_told : ℕ → Sat → ℕ → Sat → Type 0
blocks_told e m n m' = (m' ≡ m) × BlocksTold e m.0
