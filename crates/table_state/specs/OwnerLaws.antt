-- What the owner knows of all blocks, so that it can find each again without a look at the whole table, and count them.
use Rattle.std.specs.Prelude.{◌≡◌, ℕ, ◌+◌, ◌<◌, ◌≤◌, Bool, List, [], ◌∷◌, length, ◌⊎◌, ◌↔◌, true}
use Rattle.table_words.specs.Claims.{Progress, Drawn, claim}
use Rattle.table_words.specs.Entries.{HasEntry, EntryAt}
use Rattle.table_words.specs.Places.{member_of, child_place}
use Rattle.table_words.specs.Sums.{sum_below}
use Rattle.table_words.specs.Views.{Resting, Views}
use Rattle.table_state.specs.Ghosts.{Free, Loose, Placed, RolledBack, chained, stands}
use Rattle.table_state.specs.Claims.{block_of}
use Rattle.table_state.specs.Owner.{InRows, is_early}
use Rattle.table_state.specs.Laws.{Always}

-- each free block of the pool is in the owner's hand, in a row from CURSOR on and below FREE, or in the stock, and in one of these alone
abbrev pub FreeFound : Type 0
FreeFound = Always (λ s w n v g. (b : ℕ)
    → (b < s.pool → g.life b ≡ Free → HasEntry v.ruling.hand b ⊎ InRows w.cursor w.free w.row b ⊎ InRows v.ruling.low v.ruling.high w.row b)
    × (HasEntry v.ruling.hand b → (InRows w.cursor w.free w.row b → ⊥) × (InRows v.ruling.low v.ruling.high w.row b → ⊥)))

-- the rows of the stock name free blocks of the pool with BORN 0, each once; and there are such rows only while FREE is 0
abbrev pub StockRows : Type 0
StockRows = Always (λ s w n v g. (i k : ℕ) → v.ruling.low ≤ i → i < v.ruling.high → (g.life (w.row i) ≡ Free) × (w.born (w.row i) ≡ 0) × (w.row i < s.pool)
    × (w.free ≡ 0) × (v.ruling.low ≤ k → k < v.ruling.high → w.row i ≡ w.row k → i ≡ k))

-- the block has a claim in a view, at these places
abbrev pub IsClaimed : Views → ℕ → ℕ → ℕ → Type 0
IsClaimed v b x m = (j : ℕ) × (p : Progress) × HasEntry (v.claims j) (claim x m p) × (block_of p ≡ b + 1)

-- each block that is not free is noted by the owner with its places, or has a claim in a view: one in
-- the chains of its places, one that was rolled back, and one that was drawn and is in no chain
abbrev pub BlocksNoted : Type 0
BlocksNoted = Always (λ s w n v g. (b x m : ℕ) → (g.life b ≡ Placed x m → HasEntry v.ruling.placed (b, x, m) ⊎ IsClaimed v b x m)
    × (g.life b ≡ RolledBack x m → HasEntry v.ruling.placed (b, x, m))
    × (g.life b ≡ Loose m → (y j k : ℕ) × (m ≡ y + 1) × HasEntry (v.claims j) (claim y k (Drawn b))))

-- a block in chains that has a retired round, so each that was retired in the current round, has no claim: it is noted with its places, and was not rolled back
abbrev pub DeadNoted : Type 0
DeadNoted = Always (λ s w n v g. (b x m : ℕ) → g.life b ≡ Placed x m → 0 < w.died b → HasEntry v.ruling.placed (b, x, m)
    × (HasEntry v.ruling.rolled_back b → ⊥))

-- the owner knows which blocks in chains were retired in a finished round
abbrev pub KeptExact : Type 0
KeptExact = Always (λ s w n v g. (b : ℕ) → HasEntry v.ruling.kept b ↔ ((x : ℕ) × (m : ℕ) × (g.life b ≡ Placed x m) × (0 < w.died b) × (w.died b ≤ w.round)))

-- before the round a block that the owner noted with its places is a living one, which the LINK
-- words of its places name, or was retired in a finished round, or was rolled back
abbrev pub NotedKinds : Type 0
NotedKinds = Always (λ s w n v g. (b x m : ℕ) → v.ruling.phase ≡ Resting → HasEntry v.ruling.placed (b, x, m) →
    ((0 < w.born b) × (w.died b ≡ 0) × ((t : Bool) (y : ℕ) → stands (Placed x m) t ≡ y + 1 → (w.head y).block ≡ b + 1)) ⊎ HasEntry v.ruling.kept b
    ⊎ HasEntry v.ruling.rolled_back b)

-- the block that a chain word names at the place is noted with its places, of which this
-- is that of a member, and was not rolled back; or it has a claim in a view
abbrev pub IsFound : Views → ℕ → ℕ → Type 0
IsFound v x b = (t : Bool) × (y : ℕ) × (m : ℕ) × (chained (Placed y m) t ≡ x + 1) × (HasEntry v.ruling.rolled_back b → ⊥)
    × (HasEntry v.ruling.placed (b, y, m) ⊎ IsClaimed v b y m)

-- so it is of each block that a LINK word names, of a macro element or of a child of a noted block, and of each that a HISTORY word of a noted block names
abbrev pub WalkedNoted : Type 0
WalkedNoted = Always (λ s w n v g. ((x b : ℕ) → x < s.elements → (w.head x).block ≡ b + 1 → IsFound v x b)
    × ((a z i b : ℕ) (t : Bool) → HasEntry v.ruling.placed (a, z, i)
    → ((c : Bool) → (w.head (child_place s.elements a t c)).block ≡ b + 1 → IsFound v (child_place s.elements a t c) b)
    × ((x : ℕ) → stands (Placed z i) t ≡ x + 1 → (w.history (member_of a t)).block ≡ b + 1 → IsFound v x b)))

-- while no reader's pass is out that was made before the last finished round was, each pin that is out is of that round
abbrev pub EarlyPins : Type 0
EarlyPins = Always (λ s w n v g. (v.ruling.early ≡ sum_below n (λ j. is_early w.round (v.kind j) (v.read j)))
    × (v.ruling.early ≡ 0 → (j q : ℕ) → (v.read j).pin ≡ q + 1 → q ≡ w.round))

-- no number is twice in the list
abbrev pub Once : List ℕ → Type 0
Once [] = Unit {0}
Once (x ∷ xs) = (HasEntry xs x → ⊥) × Once xs

-- before the round, with nothing in the hand and the stock, the rows from CURSOR on and below FREE and the noted blocks are all blocks of the pool
abbrev pub BlocksCounted : Type 0
BlocksCounted = Always (λ s w n v g. v.ruling.phase ≡ Resting → v.ruling.hand ≡ [] → v.ruling.high ≤ v.ruling.low → w.cursor ≤ w.free → (blocks : List ℕ)
    → Once blocks → ((b : ℕ) → HasEntry blocks b ↔ ((x : ℕ) × (m : ℕ) × HasEntry v.ruling.placed (b, x, m))) → length blocks + w.free ≡ w.cursor + s.pool)

-- then each patch of the last finished round has its block in the pool, and each block that was retired or taken
-- back and is not free yet is another: so FREE is the pool less the patches and these, where CURSOR is 0
abbrev pub PatchesCounted : Type 0
PatchesCounted = Always (λ s w n v g. v.ruling.phase ≡ Resting → v.ruling.hand ≡ [] → v.ruling.high ≤ v.ruling.low → w.cursor ≤ w.free
    → (names firsts stay : List ℕ) → EntryAt v.ruling.history w.round names
    → Once firsts → ((k : ℕ) → HasEntry firsts k ↔ (HasEntry names k × (s.leads k ≡ true))) → Once stay
    → ((b : ℕ) → HasEntry stay b ↔ (HasEntry v.ruling.kept b ⊎ HasEntry v.ruling.rolled_back b)) → length firsts + length stay + w.free ≡ w.cursor + s.pool)
