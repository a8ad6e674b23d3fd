-- What the rule says of the lists of a round, of the history, and of blocks that may not be used again.
use Rattle.std.specs.Prelude.{◌≡◌, ℕ, ◌+◌, ◌<◌, ◌≤◌, Bool, true, false, List, ◌++◌, length, ◌⊎◌, ◌↔◌}
use Rattle.table_words.specs.Views.{Resting, FirstHalf, SecondHalf, Closing, RollingBack, Worker, Precedes}
use Rattle.table_words.specs.Claims.{Progress, Drawn, Living, claim}
use Rattle.table_words.specs.Entries.{HasEntry, EntryAt}
use Rattle.table_words.specs.Places.{member_of}
use Rattle.table_state.specs.Ghosts.{RolledBack, stands}
use Rattle.table_state.specs.Chains.{IsPlace}
use Rattle.table_state.specs.Claims.{block_of, draws}
use Rattle.table_state.specs.Bisections.{IsPlaceOf}
use Rattle.table_state.specs.Laws.{Always, AtRounds}
use Rattle.table_state.specs.Lists.{Holds, IsClosed, IsTarget, IsListed}

-- in the first half the bisected names lie between the last finished round's and the target
abbrev pub BetweenForests : Type 0
BetweenForests = Always (λ s w n v g. v.ruling.phase ≡ FirstHalf → IsTarget s (Holds (g.who w.round)) v.ruling.plan
    × ((k : ℕ) → (Holds (g.who w.round) k → Holds (g.who (w.round + 1)) k) × (Holds (g.who (w.round + 1)) k → HasEntry v.ruling.plan.target k)))

-- in the second half and while the round is closed they are the target's, but for patches of the retire list, of which none is left when the round is closed
abbrev pub DiffersByPatches : Type 0
DiffersByPatches = Always (λ s w n v g. (v.ruling.phase ≡ SecondHalf) ⊎ (v.ruling.phase ≡ Closing) → (k : ℕ)
    → (Holds (g.who (w.round + 1)) k → HasEntry v.ruling.plan.target k)
    × (HasEntry v.ruling.plan.target k → Holds (g.who (w.round + 1)) k ⊎ IsListed s v.ruling.plan.retire k)
    × (v.ruling.phase ≡ Closing → IsListed s v.ruling.plan.retire k → Holds (g.who (w.round + 1)) k → ⊥))

-- at each round that may be read the parent of a bisected name is bisected, and the other member of its patch
abbrev pub BisectedClosed : Type 0
BisectedClosed = AtRounds (λ s w g q who. IsClosed s (Holds who))

-- in the first half a claim is of a patch of the target that the last finished round has not, and its bit is set at the place of the patch's first member
abbrev pub ClaimsAimed : Type 0
ClaimsAimed = Always (λ s w n v g. (j x m : ℕ) (p : Progress) → v.ruling.phase ≡ FirstHalf → HasEntry (v.claims j) (claim x m p) → (w.claimed x ≡ 1)
    × ((k : ℕ) × (s.leads k ≡ true) × IsPlaceOf s w.name (g.who (w.round + 1)) x k × (g.who w.round k ≡ 0) × HasEntry v.ruling.plan.target k))

-- from its first half on, until it is rolled back, a claim with a living block is so too: the first name of the block is that of the patch
abbrev pub LivingAimed : Type 0
LivingAimed = Always (λ s w n v g. (j x m b : ℕ) → Precedes Resting v.ruling.phase → Precedes v.ruling.phase RollingBack
    → HasEntry (v.claims j) (claim x m (Living b))
    → let k : ℕ = w.name (member_of b false) in (w.claimed x ≡ 1) × (s.leads k ≡ true) × IsPlaceOf s w.name (g.who (w.round + 1)) x k × (g.who w.round k ≡ 0)
    × HasEntry v.ruling.plan.target k)

-- the workers' passes have the lists of the round
abbrev pub ListsKnown : Type 0
ListsKnown = Always (λ s w n v g. (j : ℕ) → v.kind j ≡ Worker → (v.work j).plan ≡ v.ruling.plan)

-- the owner's history has the forest of each finished round
abbrev pub HistoryRight : Type 0
HistoryRight = Always (λ s w n v g. ((q : ℕ) → q ≤ w.round → (names : List ℕ) × EntryAt v.ruling.history q names)
    × ((q : ℕ) (names : List ℕ) → EntryAt v.ruling.history q names → (q ≤ w.round) × ((k : ℕ) → (HasEntry names k ↔ Holds (g.who q) k))))

-- what a pass was told is a prefix of the history; what it saw is a finished round, and none before the
-- last that it was told; and its pin is of no round before the last finished one when it was made
abbrev pub ToldPrefix : Type 0
ToldPrefix = Always (λ s w n v g. (j : ℕ) → ((rest : List (List ℕ)) × (v.ruling.history ≡ (v.read j).told ++ rest)) × ((v.read j).seen ≤ w.round)
    × (length (v.read j).told ≤ (v.read j).seen + 1) × ((q : ℕ) → (v.read j).pin ≡ q + 1 → (v.read j).made ≤ q))

-- what a pass noted is of a finished round, and agrees with the history
abbrev pub NotesInHistory : Type 0
NotesInHistory = Always (λ s w n v g. (j k q : ℕ) → ((b : Bool) → HasEntry (v.read j).notes record { round = q; name = k; bisected = b } → q ≤ w.round)
    × ((names : List ℕ) → EntryAt v.ruling.history q names → (HasEntry (v.read j).notes record { round = q; name = k; bisected = true } → HasEntry names k)
    × (HasEntry (v.read j).notes record { round = q; name = k; bisected = false } → HasEntry names k → ⊥)))

-- a draw is in one view, and its number is below CURSOR; below FREE its block is that of the row
abbrev pub DrawsApart : Type 0
DrawsApart = Always (λ s w n v g. (i j k b c : ℕ) → HasEntry (v.work i).drawn (k, b) → HasEntry (v.work j).drawn (k, c) → (i ≡ j) × (b ≡ c) × (k < w.cursor)
    × (k < w.free → b ≡ w.row k + 1))

-- in the first half a claim in a view for which a draw was made has the block, or none, that a draw in the view found
abbrev pub ClaimsDrawn : Type 0
ClaimsDrawn = Always (λ s w n v g. (j x m : ℕ) (p : Progress) → v.ruling.phase ≡ FirstHalf → HasEntry (v.claims j) (claim x m p) → draws p ≡ 1 → (i : ℕ)
    × HasEntry (v.work j).drawn (i, block_of p))

-- the owner's note that the last finished round is quiet: no pass with a pin of it has
-- gone to a block that was rolled back, and no chain word names such a block
abbrev pub QuietRound : Type 0
QuietRound = Always (λ s w n v g. (b x m : ℕ) → g.life b ≡ RolledBack x m
    → (v.ruling.quiet ≡ true → (j : ℕ) → (v.read j).pin ≡ w.round + 1 → HasEntry (v.read j).went b → ⊥)
    × ((y : ℕ) → IsPlace s.elements g.life y → (w.head y).block ≡ b + 1 → ⊥)
    × ((a y : ℕ) (t : Bool) → stands (g.life a) t ≡ y + 1 → (w.history (member_of a t)).block ≡ b + 1 → ⊥))

-- a walk at a round that may be read begins at a macro element or at the child of a block that stands
abbrev pub WalksBegin : Type 0
WalksBegin = AtRounds (λ s w g q who. (x k : ℕ) → IsPlaceOf s w.name who x k → IsPlace s.elements g.life x)

-- a block that a chain word names stands
abbrev pub ChainsStand : Type 0
ChainsStand = Always (λ s w n v g. ((x b : ℕ) → IsPlace s.elements g.life x → (w.head x).block ≡ b + 1 → (t : Bool) × (stands (g.life b) t ≡ x + 1))
    × ((a c x : ℕ) (t : Bool) → stands (g.life a) t ≡ x + 1 → (w.history (member_of a t)).block ≡ c + 1 → (u : Bool) × (stands (g.life c) u ≡ x + 1)))

-- a block that stands is in no free row, not free in the owner's hand, and of no claim that may fill it
abbrev pub StandingKept : Type 0
StandingKept = Always (λ s w n v g. (b x : ℕ) (t : Bool) → stands (g.life b) t ≡ x + 1 → ((i : ℕ) → w.cursor ≤ i → i < w.free → w.row i ≡ b → ⊥)
    × (HasEntry v.ruling.hand b → ⊥) × ((j y m : ℕ) → HasEntry (v.claims j) (claim y m (Drawn b)) → ⊥))

-- a current round is one of those for which the table was made
abbrev pub RoundsLeft : Type 0
RoundsLeft = Always (λ s w n v g. (w.round ≤ s.rounds) × ((j : ℕ) → v.kind j ≡ Worker → w.round < s.rounds))

-- while a pass of worker 0 is out in the first half, no other worker's is, and each claim without a living block is its own
abbrev pub WorkerAlone : Type 0
WorkerAlone = Always (λ s w n v g. (j : ℕ) → v.ruling.phase ≡ FirstHalf → v.kind j ≡ Worker → (v.work j).number ≡ 0 → ((i : ℕ) → v.kind i ≡ Worker → i ≡ j)
    × ((i x m : ℕ) (p : Progress) → HasEntry (v.claims i) (claim x m p) → (i ≡ j) ⊎ ((b : ℕ) × (p ≡ Living b))))
