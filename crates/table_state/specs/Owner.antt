-- What the owner knows.
use Rattle.std.specs.Prelude.{◌≡◌, ℕ, ◌+◌, ◌<◌, ◌≤◌, ◌==◌, cond, ltb, List, ◌⊎◌, true}
use Rattle.table_words.specs.Entries.{HasEntry}
use Rattle.table_words.specs.Sums.{sum_below, one_where}
use Rattle.table_words.specs.Views.{FirstHalf, SecondHalf, Owner, Read, Ruling, Kind, is_worker, is_reader}
use Rattle.table_words.specs.Claims.{Progress, Drawn}
use Rattle.table_state.specs.Ghosts.{Stage, Held, Life, Free, Loose, Placed, RolledBack}
use Rattle.table_state.specs.Claims.{block_of}
use Rattle.mesh_names.specs.Names.{digit}

pub record OwnerRule (passes round : ℕ) (released pins : ℕ → ℕ) (n : ℕ) (kind : ℕ → Kind) (v : Ruling) : Type 0 where
  -- seat 0 is the owner's, and no other
  pub owner : (kind 0 ≡ Owner) × (0 < n)
  pub one : (j : ℕ) → kind j ≡ Owner → j ≡ 0
  -- it counts the passes that are out
  pub workers : v.workers ≡ sum_below n (λ j. digit (is_worker (kind j)))
  pub readers : v.readers ≡ sum_below n (λ j. digit (is_reader (kind j)))
  pub few_readers : v.readers ≤ passes + 1
  -- workers' passes are out in the two halves alone
  pub halves : (v.phase ≡ FirstHalf → ⊥) → (v.phase ≡ SecondHalf → ⊥) → v.workers ≡ 0
  -- of a drained round each pin was given back
  pub drained : (q : ℕ) → HasEntry v.drained q → (q < round) × (released q ≡ pins q)

-- what the owner knows of the free rows, and of the rounds that were left
pub record StockRule (round cursor free : ℕ) (pins : ℕ → ℕ) (v : Ruling) : Type 0 where
  pub finished : v.finished ≡ round
  pub cursor_is : (k : ℕ) → v.cursor ≡ k + 1 → (v.phase ≡ FirstHalf → ⊥) × (cursor ≡ k)
  pub free_is : (k : ℕ) → v.free ≡ k + 1 → free ≡ k
  -- the swap of ROUND showed how many pins were taken
  pub left : (q k : ℕ) → HasEntry v.left (q, k) → (q < round) × (pins q ≡ k)

-- no pass with a pin of the last finished round has gone to one of the blocks
abbrev pub NoneWent : ℕ → (ℕ → Read) → List ℕ → Type 0
NoneWent round read rolled_back = (j b : ℕ) → (read j).pin ≡ round + 1 → HasEntry (read j).went b → HasEntry rolled_back b → ⊥

-- what the owner knows of places of blocks, and of the blocks that were rolled back
pub record NoteRule (round taken : ℕ) (life : ℕ → Life) (read : ℕ → Read) (v : Ruling) : Type 0 where
  pub rolled_back : (b : ℕ) → HasEntry v.rolled_back b → (x : ℕ) × (m : ℕ) × (life b ≡ RolledBack x m)
  pub all : (b x m : ℕ) → life b ≡ RolledBack x m → HasEntry v.rolled_back b
  -- a block that the owner knows at its places stands there
  pub placed : (b x m : ℕ) → HasEntry v.placed (b, x, m) → (life b ≡ Placed x m) ⊎ (life b ≡ RolledBack x m)
  -- RELEASED was x when k pins were taken: if the two are one number, no pin was out then
  pub seen : (x : ℕ) → v.seen ≡ x + 1 → (k : ℕ) × (x ≤ k) × (k ≤ taken) × (k ≡ x → NoneWent round read v.rolled_back)
  pub quiet : v.quiet ≡ true → NoneWent round read v.rolled_back

-- one of the rows from a on and below e names the block
abbrev pub InRows : ℕ → ℕ → (ℕ → ℕ) → ℕ → Type 0
InRows a e row b = (i : ℕ) × (a ≤ i) × (i < e) × (row i ≡ b)

-- Each free block of the pool is known to the owner: it is in its hand, or in a row that may be drawn, or in its stock; and it is in one of these alone
pub record FreeRule (pool cursor free : ℕ) (row born : ℕ → ℕ) (life : ℕ → Life) (hand : List ℕ) (low high : ℕ) : Type 0 where
  pub all : (b : ℕ) → b < pool → life b ≡ Free → HasEntry hand b ⊎ InRows cursor free row b ⊎ InRows low high row b
  pub hand_rows : (b : ℕ) → HasEntry hand b → InRows cursor free row b → ⊥
  pub hand_stock : (b : ℕ) → HasEntry hand b → InRows low high row b → ⊥
  -- the rows of the stock name free blocks, each once, and there are such only while FREE is 0
  pub stocked : (i : ℕ) → low ≤ i → i < high → (life (row i) ≡ Free) × (born (row i) ≡ 0) × (row i < pool)
  pub once : (i k : ℕ) → low ≤ i → i < high → low ≤ k → k < high → row i ≡ row k → i ≡ k
  pub shut : low < high → free ≡ 0

-- the block has a claim at these places
abbrev pub HasClaim : (ℕ → Stage) → ℕ → ℕ → ℕ → Type 0
HasClaim stage b x m = (j : ℕ) × (p : Progress) × (stage x ≡ Held j m p) × (block_of p ≡ b + 1)

-- the block was drawn for a claim, of a place one more than which is u
abbrev pub HasDraw : (ℕ → Stage) → ℕ → ℕ → Type 0
HasDraw stage b u = (x j m : ℕ) × (u ≡ x + 1) × (stage x ≡ Held j m (Drawn b))

-- Each block that is not free is known to the owner with its places, or has a claim
pub record KnownRule (life : ℕ → Life) (stage : ℕ → Stage) (placed : List (ℕ × ℕ × ℕ)) : Type 0 where
  pub noted : (b x m : ℕ) → life b ≡ Placed x m → HasEntry placed (b, x, m) ⊎ HasClaim stage b x m
  pub rolled_back : (b x m : ℕ) → life b ≡ RolledBack x m → HasEntry placed (b, x, m)
  pub loose : (b u : ℕ) → life b ≡ Loose u → HasDraw stage b u

-- The owner knows which blocks were retired in a finished round
pub record KeptRule (round : ℕ) (died : ℕ → ℕ) (life : ℕ → Life) (kept : List ℕ) : Type 0 where
  pub all : (b x m : ℕ) → life b ≡ Placed x m → 0 < died b → died b ≤ round → HasEntry kept b
  pub right : (b : ℕ) → HasEntry kept b → (x : ℕ) × (m : ℕ) × (life b ≡ Placed x m) × (0 < died b) × (died b ≤ round)

-- 1 where the seat is a reader's pass that was made before the round was finished, else 0
abbrev pub is_early : ℕ → Kind → Read → ℕ
is_early round kind u = cond (is_reader kind) (cond (ltb u.made round) 1 0) 0

-- the owner counts these passes
abbrev pub EarlyRule : ℕ → ℕ → (ℕ → Kind) → (ℕ → Read) → ℕ → Type 0
EarlyRule round n kind read early = early ≡ sum_below n (λ j. is_early round (kind j) (read j))
