-- What the rule says of any lawful state, and so of the table between any two steps.
use Rattle.std.specs.Prelude.{◌≡◌, ℕ, ◌+◌, ◌*◌, ◌≤◌, ◌<◌, Bool, true, false, List, [], ◌∷◌, length, ◌⊎◌, ◌↔◌}
use Rattle.table_words.specs.Setup.{Setup}
use Rattle.table_words.specs.Words.{Node, Words}
use Rattle.table_words.specs.Views.{FirstHalf, Views}
use Rattle.table_words.specs.Claims.{Progress, claim}
use Rattle.table_state.specs.Claims.{block_of}
use Rattle.table_words.specs.Places.{member_of}
use Rattle.table_words.specs.Entries.{HasEntry}
use Rattle.table_words.specs.Sums.{sum_below, one_where}
use Rattle.table_state.specs.Ghosts.{Life, Placed, chained, stands, Free, Ghost}
use Rattle.table_state.specs.Chains.{Covers, Reaches}
use Rattle.table_state.specs.Bisections.{IsPlaceOf, IsPatch, MayRead}
use Rattle.table_state.specs.Rule.{Lawful}

-- so it is in each lawful state, with its ghost parts; n is the number of seats that were ever made
abbrev pub Always : (Setup → Words → ℕ → Views → Ghost → Type 0) → Type 0
Always P = (s : Setup) (w : Words) (n : ℕ) (v : Views) (lawful : Lawful s w n v) → P s w n v lawful.0

-- so it is of each round that may be read: `who` says which block bisects a name at the round
abbrev pub AtRounds : (Setup → Words → Ghost → ℕ → (ℕ → ℕ) → Type 0) → Type 0
AtRounds P = Always (λ s w n v g. (q : ℕ) → MayRead w.round v.ruling.phase v.read q → P s w g q (g.who q))

-- a place has one claim, in one view
abbrev pub OneHolder : Type 0
OneHolder = Always (λ s w n v g. (i j x m k : ℕ) (p q : Progress) → HasEntry (v.claims i) (claim x m p) → HasEntry (v.claims j) (claim x k q) → (i ≡ j)
    × (m ≡ k) × (p ≡ q))

-- a block is of one claim
abbrev pub OneClaim : Type 0
OneClaim = Always (λ s w n v g. (i j x y m k b : ℕ) (p q : Progress) → HasEntry (v.claims i) (claim x m p) → HasEntry (v.claims j) (claim y k q)
    → block_of p ≡ b + 1 → block_of q ≡ b + 1 → x ≡ y)

-- in the first half there are at most as many draws as places
abbrev pub DrawsBounded : Type 0
DrawsBounded = Always (λ s w n v g. v.ruling.phase ≡ FirstHalf → w.cursor ≤ s.elements + 4 * s.pool)

-- the rows from CURSOR on and below FREE name free blocks, each once
abbrev pub FreeRows : Type 0
FreeRows = Always (λ s w n v g. (i k : ℕ) → w.cursor ≤ i → i < w.free → (g.life (w.row i) ≡ Free) × (w.born (w.row i) ≡ 0)
    × (w.cursor ≤ k → k < w.free → w.row i ≡ w.row k → i ≡ k))

-- a walk from the place of a name finds the block that bisects it at the round, and no other
abbrev pub WalksAgree : Type 0
WalksAgree = AtRounds (λ s w g q who. (x k b : ℕ) → IsPlaceOf s w.name who x k → (who k ≡ b + 1 → Reaches w.history w.born w.died g.life q x b (w.head x))
    × (Reaches w.history w.born w.died g.life q x b (w.head x) → who k ≡ b + 1))

-- walks end: the block that a HISTORY word names was retired in a finished round, before the block that has the word was published
abbrev pub WalksEnd : Type 0
WalksEnd = Always (λ s w n v g. (b c x : ℕ) (t : Bool) → stands (g.life b) t ≡ x + 1 → (w.history (member_of b t)).block ≡ c + 1 → (0 < w.died c)
    × (w.died c ≤ w.round) × (0 < w.born b → w.died c < w.born b))

-- the block that bisects a name at a round is in the chain of a place of the name, with the name as that member's
abbrev pub BlocksPlaced : Type 0
BlocksPlaced = AtRounds (λ s w g q who. (k b : ℕ) → who k ≡ b + 1 → (t : Bool) × (x : ℕ) × (w.name (member_of b t) ≡ k) × (chained (g.life b) t ≡ x + 1)
    × IsPlaceOf s w.name who x k)

-- a block in a chain that covers a round that may be read has the names of a patch, and bisects its members
-- at the round, each at its place; so no other block covers the round with one of these names
abbrev pub CoversBisect : Type 0
CoversBisect = AtRounds (λ s w g q who. (b x m : ℕ) → g.life b ≡ Placed x m → Covers w.born w.died q b → IsPatch s w.name b m
    × ((t : Bool) (y : ℕ) → chained (g.life b) t ≡ y + 1 → (who (w.name (member_of b t)) ≡ b + 1) × IsPlaceOf s w.name who y (w.name (member_of b t))))

-- a retired block was born before; so retired rounds fall along each walk
abbrev pub RetiredBorn : Type 0
RetiredBorn = Always (λ s w n v g. (b x m : ℕ) → g.life b ≡ Placed x m → 0 < w.died b → (0 < w.born b) × (w.born b < w.died b) × (w.died b ≤ w.round + 1))

-- the members, each a block and its side, stand at the place x and lead on from the word l, each by its HISTORY word
abbrev pub LeadOn : (ℕ → Node) → (ℕ → Life) → ℕ → Node → List (ℕ × Bool) → Type 0
LeadOn history life x l [] = Unit {0}
LeadOn history life x l (t ∷ ts) = (l.block ≡ t.0 + 1) × (stands (life t.0) t.1 ≡ x + 1) × LeadOn history life x (history (member_of t.0 t.1)) ts

-- a walk goes to at most half as many blocks as rounds are finished, and one more
abbrev pub WalksShort : Type 0
WalksShort = Always (λ s w n v g. (x : ℕ) (ts : List (ℕ × Bool)) → LeadOn w.history g.life x (w.head x) ts → 2 * length ts ≤ w.round + 2)

-- a name that is bisected at a round is a macro element's, or its parent is bisected at the round
abbrev pub ParentsBisected : Type 0
ParentsBisected = AtRounds (λ s w g q who. (k b : ℕ) → who k ≡ b + 1 → ((x : ℕ) × (x < s.elements) × (k ≡ s.top x))
    ⊎ ((p a : ℕ) × (c : Bool) × (k ≡ s.child p c) × (who p ≡ a + 1)))

-- the two members of a patch are bisected by one block, or neither is
abbrev pub MembersTogether : Type 0
MembersTogether = AtRounds (λ s w g q who. (k i b : ℕ) → s.mate k ≡ i + 1 → (who k ≡ b + 1 ↔ who (i + 1) ≡ b + 1))

-- a name has one place at a round, and a place one name
abbrev pub PlacesAgree : Type 0
PlacesAgree = AtRounds (λ s w g q who. (x y k i : ℕ) → IsPlaceOf s w.name who x k → (IsPlaceOf s w.name who y k → x ≡ y) × (IsPlaceOf s w.name who x i → k ≡ i))

-- what a reader noted of a round agrees with the round
abbrev pub NotesAgree : Type 0
NotesAgree = Always (λ s w n v g. (j k q : ℕ) → (HasEntry (v.read j).notes record { round = q; name = k; bisected = true } → (b : ℕ) × (g.who q k ≡ b + 1))
    × (HasEntry (v.read j).notes record { round = q; name = k; bisected = false } → g.who q k ≡ 0))

-- the pins taken in a round stay within the bound, and each was given back or is in a view
abbrev pub PinsBounded : Type 0
PinsBounded = Always (λ s w n v g. (w.taken ≤ s.limit + s.passes + 1)
    × (w.taken ≡ w.released w.round + sum_below n (λ j. one_where (v.read j).pin (w.round + 1))))

-- a block to which a reader has gone since its pin stands in a chain or was rolled back, and its last round is above the pin
abbrev pub ReachedKept : Type 0
ReachedKept = Always (λ s w n v g. (j q b : ℕ) → (v.read j).pin ≡ q + 1 → HasEntry (v.read j).went b → ((t : Bool) × (x : ℕ) × (stands (g.life b) t ≡ x + 1))
    × ((w.died b ≡ 0) ⊎ (q < w.died b)))

-- a round that the owner knows as clear was left, and no view has a pin of it
abbrev pub DrainedRounds : Type 0
DrainedRounds = Always (λ s w n v g. (q j : ℕ) → HasEntry v.ruling.drained q → (q < w.round) × ((v.read j).pin ≡ q + 1 → ⊥))
