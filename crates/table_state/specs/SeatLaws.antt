-- What the rule says of what seats know, and of blocks and claims of the current round.
use Rattle.std.specs.Prelude.{◌≡◌, ℕ, ◌+◌, ◌<◌, ◌≤◌, Bool, false, List, [], ◌⊎◌, ◌↔◌}
use Rattle.table_words.specs.Views.{Resting, FirstHalf, SecondHalf, Closing, RollingBack, Worker, Reader, Owner, Still, At, Past, Work, unread, Vacant}
use Rattle.table_words.specs.Views.{is_worker, is_reader, Precedes}
use Rattle.table_words.specs.Claims.{Progress, Drawn, Half, Living, Claim, claim}
use Rattle.table_words.specs.Entries.{HasEntry, Noted}
use Rattle.table_words.specs.Places.{member_of, child_place}
use Rattle.table_words.specs.Sums.{sum_below, one_where}
use Rattle.table_words.specs.Words.{Node, node}
use Rattle.table_state.specs.Ghosts.{Free, Placed, RolledBack, chained, stands}
use Rattle.table_state.specs.Chains.{IsPlace}
use Rattle.table_state.specs.Bisections.{IsPlaceOf, IsPatch}
use Rattle.table_state.specs.Inside.{IsLabel}
use Rattle.table_state.specs.Laws.{Always}
use Rattle.table_state.specs.Lists.{Holds}
use Rattle.mesh_names.specs.Names.{digit}

-- before the round's first pass the current round reads as the last finished one
abbrev pub BeginsEqual : Type 0
BeginsEqual = Always (λ s w n v g. (k : ℕ) → v.ruling.phase ≡ Resting → g.who (w.round + 1) k ≡ g.who w.round k)

-- each block that was published in the current round has its claim in a view, with the bit set, but
-- while the round is closed; and the block of such a claim was, and both links name it
abbrev pub LivingClaimed : Type 0
LivingClaimed = Always (λ s w n v g. (b x m : ℕ) → g.life b ≡ Placed x m → w.born b ≡ w.round + 1 → (v.ruling.phase ≡ Closing → ⊥) → (w.claimed x ≡ 1)
    × ((j : ℕ) × HasEntry (v.claims j) (claim x m (Living b))))
    × Always (λ s w n v g. (j b x m : ℕ) → HasEntry (v.claims j) (claim x m (Living b)) → (w.born b ≡ w.round + 1) × (g.life b ≡ Placed x m)
    × (w.head x ≡ node (b + 1) 0) × ((y : ℕ) → m ≡ y + 1 → w.head y ≡ node (b + 1) 0))

-- a living block, also one of a round that is rolled back, has the names of a patch, which at a place at work are those of the elements there; the LINK
-- of each member names it; no other living block has the patch; and until the round is rolled back it bisects the patch at the current round
abbrev pub LivingBlocks : Type 0
LivingBlocks = Always (λ s w n v g. (b x m : ℕ) → g.life b ≡ Placed x m → 0 < w.born b → w.died b ≡ 0 → IsPatch s w.name b m
    × ((t : Bool) (y : ℕ) → chained (g.life b) t ≡ y + 1 → ((w.head y).block ≡ b + 1)
    × (IsPlace s.elements g.life y → IsLabel s w.name g.life y (w.name (member_of b t)))
    × (Precedes v.ruling.phase RollingBack → g.who (w.round + 1) (w.name (member_of b t)) ≡ b + 1))
    × ((c y i : ℕ) → g.life c ≡ Placed y i → 0 < w.born c → w.died c ≡ 0 → w.name (member_of c false) ≡ w.name (member_of b false) → c ≡ b))

-- what a pass found of the current round is so: places and bisected names in the first half, and in the second names
-- that are not bisected, blocks of patches, and places of children of blocks that were born in the round
abbrev pub FindingsRight : Type 0
FindingsRight = Always (λ s w n v g. (j k : ℕ)
    → ((x : ℕ) → HasEntry (v.work j).found (x, k) → (v.ruling.phase ≡ FirstHalf) × IsPlaceOf s w.name (g.who (w.round + 1)) x k)
    × (HasEntry (v.work j).known k → (v.ruling.phase ≡ FirstHalf) × Holds (g.who (w.round + 1)) k)
    × (HasEntry (v.work j).open_ k → (v.ruling.phase ≡ SecondHalf) × (g.who (w.round + 1) k ≡ 0))
    × ((b : ℕ) → HasEntry (v.work j).given (b, k) → (w.name (member_of b false) ≡ k) × (0 < w.born b) × (w.born b ≤ w.round)
    × ((w.died b ≡ 0) ⊎ (w.died b ≡ w.round + 1)))
    × ((x : ℕ) → HasEntry (v.work j).grown (x, k) → (v.ruling.phase ≡ SecondHalf) × IsPlaceOf s w.name (g.who (w.round + 1)) x k))

-- what a pass at work found of the last finished round is so: names that are not bisected, places, and blocks of names
abbrev pub FinishedFindings : Type 0
FinishedFindings = Always (λ s w n v g. (j k : ℕ) → (HasEntry (v.work j).absent k → g.who w.round k ≡ 0)
    × ((x : ℕ) → HasEntry (v.work j).stood (x, k) → IsPlaceOf s w.name (g.who w.round) x k)
    × ((b : ℕ) → HasEntry (v.work j).had (b, k) → g.who w.round k ≡ b + 1))

-- a block to which a worker's pass has gone stands, so that it is not free
abbrev pub WorkersWent : Type 0
WorkersWent = Always (λ s w n v g. (j b : ℕ) → HasEntry (v.work j).went b → ((t : Bool) × (x : ℕ) × (stands (g.life b) t ≡ x + 1)) × (g.life b ≡ Free → ⊥))

-- all workers' passes are of one half, and in the second each claim has a living block
abbrev pub OneHalf : Type 0
OneHalf = Always (λ s w n v g. (j : ℕ) → v.kind j ≡ Worker → ((v.work j).half ≡ v.ruling.phase)
    × ((v.ruling.phase ≡ FirstHalf) ⊎ (v.ruling.phase ≡ SecondHalf))
    × (v.ruling.phase ≡ SecondHalf → (i x m : ℕ) (p : Progress) → HasEntry (v.claims i) (claim x m p) → (b : ℕ) × (p ≡ Living b)))

-- until a claim's block is linked whole, what its seat filled into the words of the block, and
-- what it loaded from the members' LINK words or filled into the children's, stands there
abbrev pub FilledStays : Type 0
FilledStays = Always (λ s w n v g. (j x m b : ℕ) → HasEntry (v.claims j) (claim x m (Drawn b)) →
    ((t : Bool) (l : Node) → Noted (v.owned j).history (member_of b t) l → w.history (member_of b t) ≡ l)
    × ((t : Bool) (k : ℕ) → Noted (v.owned j).name (member_of b t) k → w.name (member_of b t) ≡ k) × ((k : ℕ) → Noted (v.owned j).died b k → w.died b ≡ k)
    × ((z : ℕ) (l : Node) → (z ≡ x) ⊎ (m ≡ z + 1) ⊎ ((t : Bool) × (c : Bool) × (z ≡ child_place s.elements b t c)) → Noted (v.owned j).head z l → w.head z ≡ l))

-- and the same of the second member's LINK while the first alone is linked
abbrev pub LoadedStays : Type 0
LoadedStays = Always (λ s w n v g. (j x z b : ℕ) (l : Node) → HasEntry (v.claims j) (claim x (z + 1) (Half b)) → Noted (v.owned j).head z l → w.head z ≡ l)

-- while no worker's pass is out, what the owner noted of a word is its content
abbrev pub OwnerWords : Type 0
OwnerWords = Always (λ s w n v g. v.ruling.workers ≡ 0 → ((z : ℕ) (l : Node) → Noted (v.owned 0).head z l → w.head z ≡ l)
    × ((b : ℕ) (t : Bool) (l : Node) → Noted (v.owned 0).history (member_of b t) l → w.history (member_of b t) ≡ l)
    × ((b : ℕ) (t : Bool) (k : ℕ) → Noted (v.owned 0).name (member_of b t) k → w.name (member_of b t) ≡ k)
    × ((b k : ℕ) → (Noted (v.owned 0).born b k → w.born b ≡ k) × (Noted (v.owned 0).died b k → w.died b ≡ k))
    × ((i b : ℕ) → Noted (v.owned 0).row i b → w.row i ≡ b))

-- pins of a round that was left were given back or are in a view; none is of a later round; and readers and pins are bounded
abbrev pub PinsCounted : Type 0
PinsCounted = Always (λ s w n v g. ((q k : ℕ) → HasEntry v.ruling.left (q, k) → k ≡ w.released q + sum_below n (λ j. one_where (v.read j).pin (q + 1)))
    × ((q : ℕ) → w.round < q → w.released q ≡ 0) × ((j q : ℕ) → (v.read j).pin ≡ q + 1 → q ≤ w.round)
    × (sum_below n (λ j. digit (is_reader (v.kind j))) ≤ s.passes + 1) × (w.taken + sum_below n (λ j. digit (v.read j).ready) ≤ s.limit + s.passes + 1))

-- a LINK word names a block of its place: with the block's retired round, or with none where the block is not retired or in the current round alone
abbrev pub LinkWords : Type 0
LinkWords = Always (λ s w n v g. (x b : ℕ) → IsPlace s.elements g.life x → (w.head x).block ≡ b + 1 → ((t : Bool) × (chained (g.life b) t ≡ x + 1))
    × (0 < (w.head x).died → ((w.head x).died ≡ w.died b) × (w.born b < w.died b)) × ((w.head x).died ≡ 0 → (w.died b ≡ 0) ⊎ (w.died b ≡ w.round + 1)))

-- a HISTORY word names a block of the same place with its retired round, which is of a finished round, and before the birth of the block that has the word
abbrev pub HistoryWords : Type 0
HistoryWords = Always (λ s w n v g. (a c x : ℕ) (t : Bool) → stands (g.life a) t ≡ x + 1 → (w.history (member_of a t)).block ≡ c + 1
    → ((u : Bool) × (chained (g.life c) u ≡ x + 1)) × ((w.history (member_of a t)).died ≡ w.died c) × (0 < w.died c) × (w.born c < w.died c)
    × (w.died c ≤ w.round) × (0 < w.born a → w.died c < w.born a))

-- each block that was retired in the current round is noted in the view of a worker's pass or the owner's, and each block that is noted so was
abbrev pub RetiredNoted : Type 0
RetiredNoted = Always (λ s w n v g. (b : ℕ) → (((j : ℕ) × HasEntry (v.work j).retired b) ⊎ HasEntry v.ruling.retired b)
    ↔ ((x : ℕ) × (m : ℕ) × (g.life b ≡ Placed x m) × (w.died b ≡ w.round + 1)))

-- of each round as many pins were taken as were given back and are in views: of the last
-- finished one as ROUND shows, and of one that was left as the owner noted
abbrev pub PinsOut : Type 0
PinsOut = Always (λ s w n v g. ((q : ℕ) → g.pins q ≡ w.released q + sum_below n (λ j. one_where (v.read j).pin (q + 1))) × (g.pins w.round ≡ w.taken)
    × ((q k : ℕ) → HasEntry v.ruling.left (q, k) → (q < w.round) × (g.pins q ≡ k)))

-- of no round, also of one that was left, were more pins taken or given back than this
abbrev pub PinsOfRounds : Type 0
PinsOfRounds = Always (λ s w n v g. (q : ℕ) → (g.pins q ≤ s.limit + s.passes + 1) × (w.released q ≤ s.limit + s.passes + 1))

-- retired rounds fall along a reader's walk: that of the HISTORY word by which it goes on is below the one by which it came, where there was one
abbrev pub RoundsFall : Type 0
RoundsFall = Always (λ s w n v g. (j q x k b : ℕ) (t : Bool) → (v.read j).pin ≡ q + 1 → ((v.read j).walk ≡ At x k b t) ⊎ ((v.read j).walk ≡ Past x k b t)
    → 0 < (v.read j).back → (w.history (member_of b t)).died < (v.read j).back)

-- the owner knows the last finished round, and what it noted of CURSOR, which is nothing in the first half, and of FREE
abbrev pub NumbersKnown : Type 0
NumbersKnown = Always (λ s w n v g. (v.ruling.finished ≡ w.round) × ((k : ℕ) → v.ruling.cursor ≡ k + 1 → (v.ruling.phase ≡ FirstHalf → ⊥) × (w.cursor ≡ k))
    × ((k : ℕ) → v.ruling.free ≡ k + 1 → w.free ≡ k))

-- the owner knows which blocks were rolled back; blocks in its hand are free; and one that it noted with its places stands there
abbrev pub BlocksKnown : Type 0
BlocksKnown = Always (λ s w n v g. (b : ℕ) → (HasEntry v.ruling.rolled_back b ↔ ((x : ℕ) × (m : ℕ) × (g.life b ≡ RolledBack x m)))
    × (HasEntry v.ruling.hand b → g.life b ≡ Free)
    × ((x m : ℕ) → HasEntry v.ruling.placed (b, x, m) → (g.life b ≡ Placed x m) ⊎ (g.life b ≡ RolledBack x m)))

-- there is no claim, draw, finding or walk at work
abbrev pub HasNoWork : List Claim → Work → Type 0
HasNoWork claims u = ((x m : ℕ) (p : Progress) → HasEntry claims (claim x m p) → ⊥) × (u.drawn ≡ []) × (u.found ≡ []) × (u.known ≡ []) × (u.open_ ≡ [])
    × (u.given ≡ []) × (u.absent ≡ []) × (u.stood ≡ []) × (u.had ≡ []) × (u.grown ≡ []) × (u.retired ≡ []) × (u.went ≡ []) × (u.walk ≡ Still)

-- a seat that is neither the owner's nor a worker's has no work; one that is not a reader's has no pin and is not ready for one; one of no
-- kind, as one that was joined, was told nothing and has read and noted nothing; and a seat that was never made is of no kind
abbrev pub OthersEmpty : Type 0
OthersEmpty = Always (λ s w n v g. (j : ℕ) → ((v.kind j ≡ Worker → ⊥) → (j ≡ 0 → ⊥) → HasNoWork (v.claims j) (v.work j))
    × ((v.kind j ≡ Reader → ⊥) → ((v.read j).pin ≡ 0) × ((v.read j).ready ≡ false)) × (v.kind j ≡ Vacant → v.read j ≡ unread) × (n ≤ j → v.kind j ≡ Vacant))

-- the owner's seat is the first, and no other; it knows how many workers' and readers' passes are out; and workers' are so in the two halves alone
abbrev pub PassesCounted : Type 0
PassesCounted = Always (λ s w n v g. (v.kind 0 ≡ Owner) × ((j : ℕ) → v.kind j ≡ Owner → j ≡ 0)
    × (v.ruling.workers ≡ sum_below n (λ j. digit (is_worker (v.kind j)))) × (v.ruling.readers ≡ sum_below n (λ j. digit (is_reader (v.kind j))))
    × ((v.ruling.phase ≡ FirstHalf → ⊥) → (v.ruling.phase ≡ SecondHalf → ⊥) → v.ruling.workers ≡ 0))
