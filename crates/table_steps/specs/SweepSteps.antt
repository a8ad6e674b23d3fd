-- The owner's sweeps: stamps, ends of claims, cuts, freeing, rows, and rolling back.
use Rattle.std.specs.Prelude.{◌≡◌, ℕ, ◌+◌, ◌<◌, ◌≤◌, Bool, true, false, List, ◌∷◌, ◌⊎◌}
use Rattle.table_words.specs.Claims.{Progress, Claimed, Failed, Drawn, Half, Whole, Living, claim, moved_on, ended}
use Rattle.table_words.specs.Entries.{HasEntry, Noted}
use Rattle.table_words.specs.Functions.{update}
use Rattle.table_words.specs.Places.{member_of}
use Rattle.table_words.specs.Views.{Resting, FirstHalf, SecondHalf, Closing, RollingBack, Views, Precedes}
use Rattle.table_words.specs.Words.{Node, node}
use Rattle.table_state.specs.Ghosts.{Placed, chained, stands}
use Rattle.table_state.specs.Claims.{block_of}
use Rattle.table_steps.specs.States.{StepKind, state}

-- no pin is out of a round before e, of those that were left: no pass is out that was made before the last one was finished, or each of these rounds is drained
abbrev pub IsDrained : Views → ℕ → Type 0
IsDrained v e = (v.ruling.early ≡ 0) ⊎ ((q : ℕ) → q < e → HasEntry v.ruling.drained q)

-- stamp: the LINK word of a place of a block that was retired in the round gets the round
abbrev pub StampStep : StepKind
StampStep s w n v after = (v.ruling.phase ≡ Closing) × (x b y m : ℕ) × (t : Bool) × HasEntry v.ruling.placed (b, y, m) × (HasEntry v.ruling.rolled_back b → ⊥)
    × (chained (Placed y m) t ≡ x + 1) × Noted (v.owned 0).head x (node (b + 1) 0) × Noted (v.owned 0).died b (v.ruling.finished + 1)
    × (after ≡ state (record w { head = update w.head x (node (b + 1) (v.ruling.finished + 1)) }) n
    (record v { owned = update v.owned 0 (record (v.owned 0) { head = (x, node (b + 1) (v.ruling.finished + 1)) ∷ (v.owned 0).head }) }))

-- the list with the claim's places of its living block
abbrev pub noted_at : List (ℕ × ℕ × ℕ) → ℕ → ℕ → Progress → List (ℕ × ℕ × ℕ)
noted_at placed x m Claimed = placed
noted_at placed x m Failed = placed
noted_at placed x m (Drawn b) = placed
noted_at placed x m (Half b) = placed
noted_at placed x m (Whole b) = placed
noted_at placed x m (Living b) = (b, x, m) ∷ placed

-- a claim ends: one with a living block when the round is closed, and the block's places are noted; one without a block when it is rolled back
abbrev pub UnclaimStep : StepKind
UnclaimStep s w n v after = ((v.ruling.phase ≡ FirstHalf → ⊥) × (v.ruling.phase ≡ SecondHalf → ⊥)) × (Precedes v.ruling.phase Closing → ⊥) × (x m : ℕ)
    × (p : Progress) × HasEntry (v.claims 0) (claim x m p) × ((b : ℕ) → block_of p ≡ b + 1 → p ≡ Living b)
    × ((b : ℕ) → p ≡ Living b → (v.ruling.phase ≡ Closing → ⊥) → ⊥)
    × (after ≡ state (record w { claimed = update w.claimed x 0 }) n (record v {
      claims = update v.claims 0 (ended (v.claims 0) x);
      ruling = record v.ruling { placed = noted_at v.ruling.placed x m p };
    }))

-- cut: a LINK word is led past a block whose rounds are drained, as the block's HISTORY word of the member at the place leads
abbrev pub CutLink : StepKind
CutLink s w n v after = (v.ruling.phase ≡ Resting) × (x b e y m : ℕ) × (t : Bool) × (l : Node) × Noted (v.owned 0).head x (node (b + 1) e)
    × Noted (v.owned 0).died b e × Noted (v.owned 0).history (member_of b t) l × (0 < e) × IsDrained v e × HasEntry v.ruling.placed (b, y, m)
    × (HasEntry v.ruling.rolled_back b → ⊥) × (chained (Placed y m) t ≡ x + 1)
    × (after ≡ state (record w { head = update w.head x l }) n
    (record v { owned = update v.owned 0 (record (v.owned 0) { head = (x, l) ∷ (v.owned 0).head }) }))

-- and so is a HISTORY word
abbrev pub CutHistory : StepKind
CutHistory s w n v after = (v.ruling.phase ≡ Resting) × (a z i x b e y m : ℕ) × (u t : Bool) × (l : Node)
    × Noted (v.owned 0).history (member_of a u) (node (b + 1) e) × Noted (v.owned 0).died b e × Noted (v.owned 0).history (member_of b t) l × (0 < e)
    × IsDrained v e
    × HasEntry v.ruling.placed (a, z, i) × (stands (Placed z i) u ≡ x + 1) × HasEntry v.ruling.placed (b, y, m) × (HasEntry v.ruling.rolled_back b → ⊥)
    × (chained (Placed y m) t ≡ x + 1)
    × (after ≡ state (record w { history = update w.history (member_of a u) l }) n
    (record v { owned = update v.owned 0 (record (v.owned 0) { history = (member_of a u, l) ∷ (v.owned 0).history }) }))

-- the owner owns the LINK or HISTORY word, which names no block that is to be free
abbrev pub CleanHead : Views → (ℕ → Bool) → ℕ → Type 0
CleanHead v gone x = (l : Node) × Noted (v.owned 0).head x l × ((c : ℕ) → l.block ≡ c + 1 → gone c ≡ false)

abbrev pub CleanHistory : Views → (ℕ → Bool) → ℕ → Bool → Type 0
CleanHistory v gone b t = (l : Node) × Noted (v.owned 0).history (member_of b t) l × ((c : ℕ) → l.block ≡ c + 1 → gone c ≡ false)

-- the LINK word of the place names no block that is to be free, nor does the HISTORY word of a block there that stays
abbrev pub CleanPlace : Views → (ℕ → Bool) → ℕ → Type 0
CleanPlace v gone x = CleanHead v gone x
    × ((b y m : ℕ) (t : Bool) → HasEntry v.ruling.placed (b, y, m) → stands (Placed y m) t ≡ x + 1 → (gone b ≡ true) ⊎ CleanHistory v gone b t)

-- the entries of the old list that are of no block which is to be free
abbrev pub Leaves : {A : Type 0} → (A → ℕ) → (ℕ → Bool) → List A → List A → Type 0
Leaves {A} of gone old new = (a : A) → (HasEntry new a → HasEntry old a × (gone (of a) ≡ false)) × (HasEntry old a → HasEntry new a ⊎ (gone (of a) ≡ true))

-- a block may be free: it was rolled back, and no pass has gone to it; or it was retired,
-- its rounds are drained, and the words of the places where it stands were swept
abbrev pub MayFree : Views → (ℕ → Bool) → ℕ → Type 0
MayFree v gone c = (HasEntry v.ruling.rolled_back c × IsDrained v v.ruling.finished × (v.ruling.quiet ≡ true))
    ⊎ ((e y m : ℕ) × Noted (v.owned 0).died c e × (0 < e) × (e ≤ v.ruling.finished) × IsDrained v e × HasEntry v.ruling.placed (c, y, m)
    × ((t : Bool) (x : ℕ) → stands (Placed y m) t ≡ x + 1 → CleanPlace v gone x))

-- the new hand has the blocks of the old one and those that become free
abbrev pub HandGets : List ℕ → (ℕ → Bool) → List ℕ → Type 0
HandGets old gone new = (c : ℕ) → (HasEntry new c → HasEntry old c ⊎ (gone c ≡ true)) × (HasEntry old c ⊎ (gone c ≡ true) → HasEntry new c)

-- Free: the blocks of a list become free, and leave the owner's lists for its hand; no word changes
abbrev pub FreeStep : StepKind
FreeStep s w n v after = (v.ruling.phase ≡ Resting) × (gone : ℕ → Bool) × (hand rolled_back kept : List ℕ) × (placed : List (ℕ × ℕ × ℕ))
    × ((c : ℕ) → gone c ≡ true → MayFree v gone c)
    × HandGets v.ruling.hand gone hand
    × Leaves (λ c. c) gone v.ruling.rolled_back rolled_back × Leaves (λ c. c) gone v.ruling.kept kept
    × Leaves (λ (a : ℕ × ℕ × ℕ). a.0) gone v.ruling.placed placed
    × (after ≡ state w n (record v { ruling = record v.ruling { hand = hand; rolled_back = rolled_back; kept = kept; placed = placed } }))

-- BORN of a free block becomes 0
abbrev pub ZeroStep : StepKind
ZeroStep s w n v after = (v.ruling.phase ≡ Resting) × (b : ℕ) × HasEntry v.ruling.hand b
    × (after ≡ state (record w { born = update w.born b 0 }) n
    (record v { owned = update v.owned 0 (record (v.owned 0) { born = (b, 0) ∷ (v.owned 0).born }) }))

-- FREE becomes 0: the rows that were not drawn are the stock
abbrev pub StopStep : StepKind
StopStep s w n v after = (v.ruling.phase ≡ Resting) × (k c : ℕ) × (v.ruling.free ≡ k + 1) × (v.ruling.cursor ≡ c + 1) × (v.ruling.high ≤ v.ruling.low)
    × (after ≡ state (record w { free = 0 }) n (record v { ruling = record v.ruling { free = 1; low = c; high = k } }))

-- then CURSOR becomes 0, the rows that are not of the stock are written, and FREE becomes the number of rows
abbrev pub RewindStep : StepKind
RewindStep s w n v after = (v.ruling.phase ≡ Resting) × (v.ruling.free ≡ 1)
    × (after ≡ state (record w { cursor = 0 }) n (record v { ruling = record v.ruling { cursor = 1 } }))

abbrev pub RowStep : StepKind
RowStep s w n v after = (v.ruling.phase ≡ Resting) × (i b : ℕ) × (v.ruling.free ≡ 1) × ((i < v.ruling.low) ⊎ (v.ruling.high ≤ i))
    × (after ≡ state (record w { row = update w.row i b }) n (record v { owned = update v.owned 0 (record (v.owned 0) { row = (i, b) ∷ (v.owned 0).row }) }))

-- the row is below k and not of the stock, and names the block by what the owner owns
abbrev pub IsLaid : Views → ℕ → ℕ → ℕ → Type 0
IsLaid v k i b = (i < k) × ((i < v.ruling.low) ⊎ (v.ruling.high ≤ i)) × Noted (v.owned 0).row i b

-- each row below k is of the stock, or names a block of the hand with BORN 0
abbrev pub AllLaid : Views → ℕ → Type 0
AllLaid v k = (i : ℕ) → i < k → ((v.ruling.low ≤ i) × (i < v.ruling.high)) ⊎ ((b : ℕ) × IsLaid v k i b × HasEntry v.ruling.hand b × Noted (v.owned 0).born b 0)

-- and no block is laid twice
abbrev pub LaidOnce : Views → ℕ → Type 0
LaidOnce v k = (i j b : ℕ) → IsLaid v k i b → IsLaid v k j b → i ≡ j

-- the new hand has what was in the hand and was not laid
abbrev pub HandKeeps : Views → ℕ → List ℕ → Type 0
HandKeeps v k hand = (b : ℕ) → (HasEntry hand b → HasEntry v.ruling.hand b × ((i : ℕ) → IsLaid v k i b → ⊥))
    × (HasEntry v.ruling.hand b → HasEntry hand b ⊎ ((i : ℕ) × IsLaid v k i b))

-- each row below FREE is then of the stock, or names a block of the hand with BORN 0; the stock's rows are all below it, and the hand has what was not laid
abbrev pub OpenStep : StepKind
OpenStep s w n v after = (v.ruling.phase ≡ Resting) × (k : ℕ) × (hand : List ℕ) × (v.ruling.free ≡ 1) × (v.ruling.cursor ≡ 1)
    × (v.ruling.low < v.ruling.high → v.ruling.high ≤ k)
    × AllLaid v k
    × LaidOnce v k
    × HandKeeps v k hand
    × (after ≡ state (record w { free = k }) n (record v { ruling = record v.ruling { hand = hand; free = k + 1; low = 0; high = 0 } }))

-- Taking back: BORN of a claim's block becomes 0
abbrev pub UnbearStep : StepKind
UnbearStep s w n v after = (v.ruling.phase ≡ RollingBack) × (x m b : ℕ) × HasEntry (v.claims 0) (claim x m (Living b))
    × (after ≡ state (record w { born = update w.born b 0 }) n (record v {
      claims = update v.claims 0 (moved_on (v.claims 0) x (Whole b));
      owned = update v.owned 0 (record (v.owned 0) { born = (b, 0) ∷ (v.owned 0).born });
    }))

-- then the second member's LINK gets back its old content
abbrev pub UnlinkSecond : StepKind
UnlinkSecond s w n v after = (v.ruling.phase ≡ RollingBack) × (x y b : ℕ) × (l : Node) × HasEntry (v.claims 0) (claim x (y + 1) (Whole b))
    × Noted (v.owned 0).history (member_of b true) l
    × (after ≡ state (record w { head = update w.head y l }) n (record v {
      claims = update v.claims 0 (moved_on (v.claims 0) x (Half b));
      owned = update v.owned 0 (record (v.owned 0) { head = (y, l) ∷ (v.owned 0).head });
    }))

-- and the first member's, with which the claim ends
abbrev pub UnlinkFirst : StepKind
UnlinkFirst s w n v after = (v.ruling.phase ≡ RollingBack) × (x m b : ℕ) × (l : Node) × (p : Progress) × HasEntry (v.claims 0) (claim x m p)
    × ((p ≡ Half b) ⊎ ((p ≡ Whole b) × (m ≡ 0))) × Noted (v.owned 0).history (member_of b false) l
    × (after ≡ state (record w { head = update w.head x l; claimed = update w.claimed x 0 }) n (record v {
      claims = update v.claims 0 (ended (v.claims 0) x);
      owned = update v.owned 0 (record (v.owned 0) { head = (x, l) ∷ (v.owned 0).head });
      ruling = record v.ruling { rolled_back = b ∷ v.ruling.rolled_back; placed = (b, x, m) ∷ v.ruling.placed; seen = 0; quiet = false };
    }))

-- then the block's DIED becomes the round
abbrev pub BuryStep : StepKind
BuryStep s w n v after = ((v.ruling.phase ≡ FirstHalf → ⊥) × (v.ruling.phase ≡ SecondHalf → ⊥)) × (b : ℕ) × HasEntry v.ruling.rolled_back b
    × (after ≡ state (record w { died = update w.died b (v.ruling.finished + 1) }) n
    (record v { owned = update v.owned 0 (record (v.owned 0) { died = (b, v.ruling.finished + 1) ∷ (v.owned 0).died }) }))

-- a claim ends whose block was drawn and not linked: the block is free
abbrev pub UndrawStep : StepKind
UndrawStep s w n v after = (v.ruling.phase ≡ RollingBack) × (x m b : ℕ) × HasEntry (v.claims 0) (claim x m (Drawn b))
    × (after ≡ state (record w { claimed = update w.claimed x 0 }) n (record v {
      claims = update v.claims 0 (ended (v.claims 0) x);
      ruling = record v.ruling { hand = b ∷ v.ruling.hand };
    }))
