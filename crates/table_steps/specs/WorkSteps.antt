-- The steps by which a worker's pass bisects and retires, one word each.
use Rattle.std.specs.Prelude.{◌≡◌, ℕ, ◌+◌, ◌<◌, ◌≤◌, Bool, true, false, List, ◌∷◌, ◌⊎◌}
use Rattle.table_words.specs.Claims.{Progress, Claimed, Failed, Drawn, Half, Whole, Living, claim, moved_on}
use Rattle.table_words.specs.Entries.{HasEntry, Noted}
use Rattle.table_words.specs.Functions.{update}
use Rattle.table_words.specs.Places.{member_of, child_place}
use Rattle.table_words.specs.Setup.{Setup}
use Rattle.table_words.specs.Views.{SecondHalf, Worker, Work, Owned, owns_nothing}
use Rattle.table_words.specs.Words.{Node, node}
use Rattle.table_state.specs.Ghosts.{Placed, stands}
use Rattle.table_state.specs.Lists.{IsMember}
use Rattle.table_steps.specs.States.{StepKind, state}

-- the pass found one member of the patch that k leads, the first or the second, absent from the last finished round
abbrev pub IsAbsent : Setup → Work → ℕ → Type 0
IsAbsent s u k = HasEntry u.absent k ⊎ ((i : ℕ) × (s.mate k ≡ i + 1) × HasEntry u.absent (i + 1))

-- the patch that k leads has no second member, or the pass found it at the place m - 1
abbrev pub SecondFound : Setup → Work → ℕ → ℕ → Type 0
SecondFound s u m k = ((m ≡ 0) × (s.mate k ≡ 0)) ⊎ ((y : ℕ) × (i : ℕ) × (m ≡ y + 1) × (s.mate k ≡ i + 1) × HasEntry u.found (y, i + 1))

-- the seat knows by its owned words that the LINK words of the block's children name nothing
abbrev pub NoChildren : Setup → Owned → ℕ → Type 0
NoChildren s u b = (t c : Bool) → Noted u.head (child_place s.elements b t c) (node 0 0)

-- and that the HISTORY words of the block's members are what the LINK words of their places x and m - 1 were
abbrev pub OldLinks : Owned → ℕ → ℕ → ℕ → Type 0
OldLinks u b x m = (t : Bool) (y : ℕ) → stands (Placed x m) t ≡ y + 1 → (l : Node) × Noted u.head y l × Noted u.history (member_of b t) l

-- claim: the pass found the places of a patch of the target, and the last finished round has not one of its members, so neither; the claim bit was not set
abbrev pub ClaimStep : StepKind
ClaimStep s w n v after = (j x m k : ℕ) × (v.kind j ≡ Worker) × (w.claimed x ≡ 0) × (s.leads k ≡ true) × IsAbsent s (v.work j) k
    × HasEntry (v.work j).plan.target k × HasEntry (v.work j).found (x, k)
    × SecondFound s (v.work j) m k
    × (after ≡ state (record w { claimed = update w.claimed x 1 }) n (record v {
      claims = update v.claims j (claim x m Claimed ∷ v.claims j);
      owned = update v.owned j owns_nothing;
    }))

-- draw: the number found is below FREE, and the claim gets the row's block; the pass has not seen
-- FREE and the row yet, and learns by loads of them which of this and the next it was
abbrev pub DrawStep : StepKind
DrawStep s w n v after = (j x m : ℕ) × HasEntry (v.claims j) (claim x m Claimed) × (v.kind j ≡ Worker) × (w.cursor < w.free)
    × (after ≡ state (record w { cursor = w.cursor + 1 }) n (record v {
      claims = update v.claims j (moved_on (v.claims j) x (Drawn (w.row w.cursor)));
      work = update v.work j (record (v.work j) { drawn = (w.cursor, w.row w.cursor + 1) ∷ (v.work j).drawn });
      owned = update v.owned j owns_nothing;
    }))

-- or it is not, and the claim gets none
abbrev pub FullStep : StepKind
FullStep s w n v after = (j x m : ℕ) × HasEntry (v.claims j) (claim x m Claimed) × (v.kind j ≡ Worker) × (w.free ≤ w.cursor)
    × (after ≡ state (record w { cursor = w.cursor + 1 }) n (record v {
      claims = update v.claims j (moved_on (v.claims j) x Failed);
      work = update v.work j (record (v.work j) { drawn = (w.cursor, 0) ∷ (v.work j).drawn });
      owned = update v.owned j owns_nothing;
    }))

-- fill: a HISTORY word, a NAME word, DIED, or the LINK of a child, of the block that was drawn for a claim
abbrev pub FillHistory : StepKind
FillHistory s w n v after = (j x m b : ℕ) × HasEntry (v.claims j) (claim x m (Drawn b)) × (v.kind j ≡ Worker) × (t : Bool) × (l : Node)
    × (after ≡ state (record w { history = update w.history (member_of b t) l }) n
    (record v { owned = update v.owned j (record (v.owned j) { history = (member_of b t, l) ∷ (v.owned j).history }) }))

abbrev pub FillName : StepKind
FillName s w n v after = (j x m b : ℕ) × HasEntry (v.claims j) (claim x m (Drawn b)) × (v.kind j ≡ Worker) × (t : Bool) × (k : ℕ)
    × (after ≡ state (record w { name = update w.name (member_of b t) k }) n
    (record v { owned = update v.owned j (record (v.owned j) { name = (member_of b t, k) ∷ (v.owned j).name }) }))

abbrev pub FillDied : StepKind
FillDied s w n v after = (j x m b : ℕ) × HasEntry (v.claims j) (claim x m (Drawn b)) × (v.kind j ≡ Worker) × (k : ℕ)
    × (after ≡ state (record w { died = update w.died b k }) n
    (record v { owned = update v.owned j (record (v.owned j) { died = (b, k) ∷ (v.owned j).died }) }))

abbrev pub FillChild : StepKind
FillChild s w n v after = (j x m b : ℕ) × HasEntry (v.claims j) (claim x m (Drawn b)) × (v.kind j ≡ Worker) × (t c : Bool) × (l : Node)
    × (after ≡ state (record w { head = update w.head (child_place s.elements b t c) l }) n
    (record v { owned = update v.owned j (record (v.owned j) { head = (child_place s.elements b t c, l) ∷ (v.owned j).head }) }))

-- link of the first member: the nine words are filled with the patch, DIED 0, empty links of the
-- children, and the old contents of the members' LINK words; a patch of one member is linked whole
abbrev pub LinkFirst : StepKind
LinkFirst s w n v after = (j x m b k : ℕ) × HasEntry (v.claims j) (claim x m (Drawn b)) × (v.kind j ≡ Worker) × Noted (v.owned j).died b 0
    × Noted (v.owned j).name (member_of b false) k × Noted (v.owned j).name (member_of b true) (s.mate k) × (s.leads k ≡ true)
    × NoChildren s (v.owned j) b × OldLinks (v.owned j) b x m
    × HasEntry (v.work j).found (x, k) × SecondFound s (v.work j) m k × (q : Progress) × ((q ≡ Half b) ⊎ ((q ≡ Whole b) × (m ≡ 0)))
    × (after ≡ state (record w { head = update w.head x (node (b + 1) 0) }) n (record v { claims = update v.claims j (moved_on (v.claims j) x q) }))

-- and of the second, whose HISTORY word has the old content of its LINK word
abbrev pub LinkSecond : StepKind
LinkSecond s w n v after = (j x y b : ℕ) × (l : Node) × HasEntry (v.claims j) (claim x (y + 1) (Half b)) × (v.kind j ≡ Worker) × Noted (v.owned j).head y l
    × Noted (v.owned j).history (member_of b true) l
    × (after ≡ state (record w { head = update w.head y (node (b + 1) 0) }) n (record v { claims = update v.claims j (moved_on (v.claims j) x (Whole b)) }))

-- publish: BORN becomes the round in which the pass works, and it knows the names at the members' places as bisected
abbrev pub PublishStep : StepKind
PublishStep s w n v after = (j x m b : ℕ) × HasEntry (v.claims j) (claim x m (Whole b)) × (v.kind j ≡ Worker) × (known : List ℕ)
    × ((k : ℕ) → HasEntry known k → HasEntry (v.work j).known k ⊎ ((y : ℕ) × ((y ≡ x) ⊎ (m ≡ y + 1)) × HasEntry (v.work j).found (y, k)))
    × (after ≡ state (record w { born = update w.born b (v.work j).round }) n (record v {
      claims = update v.claims j (moved_on (v.claims j) x (Living b));
      work = update v.work j (record (v.work j) { known = known });
    }))

-- retire: a patch of the retire list of which the pass found the block, and no child as bisected; DIED was 0 and becomes the round in which the pass works
abbrev pub RetireStep : StepKind
RetireStep s w n v after = (j b k : ℕ) × HasEntry (v.work j).given (b, k) × (v.kind j ≡ Worker) × HasEntry (v.work j).plan.retire k × (w.died b ≡ 0)
    × ((c : Bool) → HasEntry (v.work j).open_ (s.child k c)) × ((i : ℕ) → s.mate k ≡ i + 1 → (c : Bool) → HasEntry (v.work j).open_ (s.child (i + 1) c))
    × (open_ : List ℕ) × ((i : ℕ) → HasEntry open_ i → HasEntry (v.work j).open_ i ⊎ IsMember s k i)
    × (after ≡ state (record w { died = update w.died b (v.work j).round }) n (record v {
      work = update v.work j (record (v.work j) {
        open_ = open_;
        retired = b ∷ (v.work j).retired;
      });
    }))

-- or DIED shows that it is retired already
abbrev pub RetiredStep : StepKind
RetiredStep s w n v after = (j : ℕ) × (v.kind j ≡ Worker) × ((v.work j).half ≡ SecondHalf) × (b k : ℕ) × HasEntry (v.work j).given (b, k) × (0 < w.died b)
    × (open_ : List ℕ) × ((i : ℕ) → HasEntry open_ i → HasEntry (v.work j).open_ i ⊎ IsMember s k i)
    × (after ≡ state w n (record v { work = update v.work j (record (v.work j) { open_ = open_ }) }))
