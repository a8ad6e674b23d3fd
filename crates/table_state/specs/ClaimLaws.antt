-- What the rule says of claims: where their bits are, of which views they are, and how many draws were made for them.
use Rattle.std.specs.Prelude.{◌≡◌, ℕ, ◌+◌, ◌<◌, ◌≤◌, ◌⊎◌, ◌↔◌}
use Rattle.table_words.specs.Views.{Resting, FirstHalf, RollingBack, Precedes}
use Rattle.table_words.specs.Claims.{Progress, Drawn, Half, Whole, claim}
use Rattle.table_words.specs.Entries.{HasEntry}
use Rattle.table_words.specs.Setup.{places}
use Rattle.table_words.specs.Sums.{sum_below}
use Rattle.table_words.specs.Words.{node}
use Rattle.table_state.specs.Ghosts.{Held, Free, Loose, Placed, RolledBack}
use Rattle.table_state.specs.Claims.{draws_of}
use Rattle.table_state.specs.Laws.{Always}
use Rattle.table_state.specs.Lists.{IsTarget, Holds}

-- a place has its claim bit exactly where its claim stands in a view, which it does in one alone
abbrev pub BitsClaimed : Type 0
BitsClaimed = Always (λ s w n v g. (x : ℕ) → (w.claimed x ≤ 1) × ((j m : ℕ) (p : Progress) → HasEntry (v.claims j) (claim x m p) → w.claimed x ≡ 1)
    × (w.claimed x ≡ 1 → (j m : ℕ) × (p : Progress) × HasEntry (v.claims j) (claim x m p)
    × ((i k : ℕ) (q : Progress) → HasEntry (v.claims i) (claim x k q) → (i ≡ j) × (k ≡ m) × (q ≡ p))))

-- the second place of a claim has no claim bit, and is of one claim
abbrev pub SecondPlaces : Type 0
SecondPlaces = Always (λ s w n v g. (j x y : ℕ) (p : Progress) → HasEntry (v.claims j) (claim x (y + 1) p) → (w.claimed y ≡ 0)
    × ((i z : ℕ) (q : Progress) → HasEntry (v.claims i) (claim z (y + 1) q) → z ≡ x))

-- a claim is of a place of the table, and its stage is that of the view
abbrev pub StagesViewed : Type 0
StagesViewed = Always (λ s w n v g. (j x m : ℕ) (p : Progress) → (g.stage x ≡ Held j m p ↔ HasEntry (v.claims j) (claim x m p))
    × (HasEntry (v.claims j) (claim x m p) → x < places s))

-- in the first half CURSOR is how many of the claims have a draw
abbrev pub DrawsCounted : Type 0
DrawsCounted = Always (λ s w n v g. v.ruling.phase ≡ FirstHalf → w.cursor ≡ sum_below (places s) (λ x. draws_of (g.stage x)))

-- a block that was drawn and not published has BORN 0: it is in no chain until it is linked at the
-- first member's place, and then in those of its places; and so has one that was rolled back
abbrev pub UnbornBlocks : Type 0
UnbornBlocks = Always (λ s w n v g. ((j x m b : ℕ) → HasEntry (v.claims j) (claim x m (Drawn b)) → (g.life b ≡ Loose (x + 1)) × (w.born b ≡ 0))
    × ((j x m b : ℕ) → HasEntry (v.claims j) (claim x m (Half b)) → (g.life b ≡ Placed x m) × (w.born b ≡ 0) × (w.head x ≡ node (b + 1) 0)
    × ((y : ℕ) → m ≡ y + 1 → (w.head y).block ≡ b + 1 → ⊥))
    × ((j x m b : ℕ) → HasEntry (v.claims j) (claim x m (Whole b)) → (g.life b ≡ Placed x m) × (w.born b ≡ 0) × (w.head x ≡ node (b + 1) 0)
    × ((y : ℕ) → m ≡ y + 1 → w.head y ≡ node (b + 1) 0))
    × ((b x m : ℕ) → g.life b ≡ RolledBack x m → w.born b ≡ 0))

-- a free block has BORN 0; or it was retired in a finished round, BORN is not 0 again yet, and it is in no row from CURSOR on and below FREE
abbrev pub FreeUnborn : Type 0
FreeUnborn = Always (λ s w n v g. (b : ℕ) → g.life b ≡ Free → (w.born b ≡ 0)
    ⊎ ((0 < w.born b) × (w.born b < w.died b) × (w.died b ≤ w.round) × ((i : ℕ) → w.cursor ≤ i → i < w.free → w.row i ≡ b → ⊥)))

-- a block in a chain that has BORN 0 is of a claim in a view
abbrev pub UnbornClaimed : Type 0
UnbornClaimed = Always (λ s w n v g. (b x m : ℕ) → g.life b ≡ Placed x m → w.born b ≡ 0 → (j : ℕ)
    × (HasEntry (v.claims j) (claim x m (Half b)) ⊎ HasEntry (v.claims j) (claim x m (Whole b))))

-- in both halves and while the round is closed the target is the least closed list over the needs and the last finished round's names
abbrev pub TargetLeast : Type 0
TargetLeast = Always (λ s w n v g. Precedes Resting v.ruling.phase → Precedes v.ruling.phase RollingBack → IsTarget s (Holds (g.who w.round)) v.ruling.plan)
