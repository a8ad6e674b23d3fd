-- How many draws a round makes: one at most for each patch that it adds, so that none fails where the round fits into the pool.
use Rattle.std.specs.Prelude.{◌≡◌, ℕ, ◌+◌, ◌<◌, ◌≤◌, List, length, ◌⊎◌, ◌↔◌, true}
use Rattle.table_words.specs.Claims.{Claimed, Failed, claim}
use Rattle.table_words.specs.Entries.{HasEntry, EntryAt}
use Rattle.table_words.specs.Setup.{Setup}
use Rattle.table_words.specs.Views.{FirstHalf, Ruling}
use Rattle.table_state.specs.Laws.{Always}
use Rattle.table_state.specs.OwnerLaws.{Once}

-- the list has the numbers of which P holds and no others, each once
abbrev pub Enumerates : (ℕ → Type 0) → List ℕ → Type 0
Enumerates P list = Once list × ((k : ℕ) → HasEntry list k ↔ P k)

-- k is the first member of a patch of the names
abbrev pub IsFirst : Setup → List ℕ → ℕ → Type 0
IsFirst s names k = (s.leads k ≡ true) × HasEntry names k

-- the owner keeps the block from use: it was retired or rolled back and is not free yet, or is in the hand
abbrev pub IsHeldBack : Ruling → ℕ → Type 0
IsHeldBack v b = HasEntry v.kept b ⊎ HasEntry v.rolled_back b ⊎ HasEntry v.hand b

-- in the first half CURSOR is at most the number of patches that the target has and the last finished forest has not, and below it while a claim has not drawn
abbrev pub DrawsOfTarget : Type 0
DrawsOfTarget = Always (λ s w n v g. (names added : List ℕ) → v.ruling.phase ≡ FirstHalf → EntryAt v.ruling.history w.round names
    → Enumerates (λ k. IsFirst s v.ruling.plan.target k × (HasEntry names k → ⊥)) added
    → (w.cursor ≤ length added) × ((j x m : ℕ) → HasEntry (v.claims j) (claim x m Claimed) → w.cursor < length added))

-- in the first half, while there is no stock, each block of the pool is of a patch of the last finished forest, held back, or of a row below FREE
abbrev pub PoolCovered : Type 0
PoolCovered = Always (λ s w n v g. (names firsts held : List ℕ) → v.ruling.phase ≡ FirstHalf → v.ruling.high ≤ v.ruling.low
    → EntryAt v.ruling.history w.round names
    → Enumerates (IsFirst s names) firsts → Enumerates (IsHeldBack v.ruling) held → s.pool ≤ length firsts + length held + w.free)

-- so where the target's patches and the blocks held back fit into the pool, no draw fails: a claim that draws finds a number below FREE, and none has failed
abbrev pub RoundFits : Type 0
RoundFits = Always (λ s w n v g. (goal held : List ℕ) → v.ruling.phase ≡ FirstHalf → v.ruling.high ≤ v.ruling.low
    → Enumerates (IsFirst s v.ruling.plan.target) goal → Enumerates (IsHeldBack v.ruling) held → length goal + length held ≤ s.pool
    → (w.cursor ≤ w.free) × ((j x m : ℕ) → HasEntry (v.claims j) (claim x m Claimed) → w.cursor < w.free)
    × ((j x m : ℕ) → HasEntry (v.claims j) (claim x m Failed) → ⊥))
