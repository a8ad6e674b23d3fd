-- The loads by which passes walk and learn: no word changes, and the view of one seat.
use Rattle.std.specs.Prelude.{◌≡◌, ℕ, ◌+◌, ◌<◌, ◌≤◌, Bool, true, false, List, ◌∷◌, ◌⊎◌}
use Rattle.table_words.specs.Entries.{HasEntry}
use Rattle.table_words.specs.Functions.{update}
use Rattle.table_words.specs.Places.{member_of, child_place}
use Rattle.table_words.specs.Setup.{Setup}
use Rattle.table_words.specs.Views.{FirstHalf, SecondHalf, Worker, Work, Read, Still, At, Past}
use Rattle.table_words.specs.Words.{Node, node, Words}
use Rattle.table_steps.specs.States.{StepKind, state}

-- the places with those of the children of the element k, which stand at the member t of the block b
abbrev pub with_children : Setup → ℕ → Bool → ℕ → List (ℕ × ℕ) → List (ℕ × ℕ)
with_children s b t k places = (child_place s.elements b t false, s.child k false) ∷ (child_place s.elements b t true, s.child k true) ∷ places

-- the word l is the one that a worker's walk for the element k at the place x loads next: the LINK of a
-- place that it found, or of a macro element, or the HISTORY word of the block that it passed by
abbrev pub WorkNext : Setup → Words → Work → ℕ → ℕ → Node → Type 0
WorkNext s w u x k l = ((HasEntry u.found (x, k) ⊎ HasEntry u.stood (x, k) ⊎ ((x < s.elements) × (k ≡ s.top x))) × (l ≡ w.head x))
    ⊎ ((b : ℕ) × (t : Bool) × (u.walk ≡ Past x k b t) × (l ≡ w.history (member_of b t)))

-- the same of a reader's walk
abbrev pub ReadNext : Setup → Words → Read → ℕ → ℕ → Node → Type 0
ReadNext s w u x k l = ((HasEntry u.places (x, k) ⊎ ((x < s.elements) × (k ≡ s.top x))) × (l ≡ w.head x))
    ⊎ ((b : ℕ) × (t : Bool) × (u.walk ≡ Past x k b t) × (l ≡ w.history (member_of b t)))

-- a worker's pass of the first half notes a macro element's place
abbrev pub WorkTop : StepKind
WorkTop s w n v after = (j : ℕ) × (v.kind j ≡ Worker) × ((v.work j).half ≡ FirstHalf) × (x : ℕ) × (x < s.elements)
    × (after ≡ state w n (record v { work = update v.work j (record (v.work j) { found = (x, s.top x) ∷ (v.work j).found }) }))

-- the word of a worker's walk names nothing, or a block that was retired in a finished round: the last finished round has not the name
abbrev pub WorkEnds : StepKind
WorkEnds s w n v after = (j : ℕ) × (v.kind j ≡ Worker) × (x k : ℕ) × (l : Node) × WorkNext s w (v.work j) x k l
    × ((l.block ≡ 0) ⊎ ((0 < l.died) × (l.died < (v.work j).round)))
    × (after ≡ state w n (record v { work = update v.work j (record (v.work j) { walk = Still; absent = k ∷ (v.work j).absent }) }))

-- or it names a block, to which the walk goes: the member with the element's name
abbrev pub WorkGoes : StepKind
WorkGoes s w n v after = (j : ℕ) × (v.kind j ≡ Worker) × (x k b : ℕ) × (l : Node) × WorkNext s w (v.work j) x k l × (l.block ≡ b + 1)
    × ((l.died ≡ 0) ⊎ ((v.work j).round ≤ l.died)) × (t : Bool) × (w.name (member_of b t) ≡ k)
    × (after ≡ state w n (record v { work = update v.work j (record (v.work j) { went = b ∷ (v.work j).went; walk = At x k b t }) }))

-- BORN in the first half is above 0: the name is bisected, and its children stand at the block
abbrev pub WorkFinds : StepKind
WorkFinds s w n v after = (j : ℕ) × (v.kind j ≡ Worker) × ((v.work j).half ≡ FirstHalf) × (x k b : ℕ) × (t : Bool) × ((v.work j).walk ≡ At x k b t)
    × (0 < w.born b)
    × (after ≡ state w n (record v {
      work = update v.work j (record (v.work j) {
        walk = Still;
        found = with_children s b t k (v.work j).found;
        known = k ∷ (v.work j).known;
      });
    }))

-- BORN in the second half is of a finished round: the last finished round has the name by this block
abbrev pub WorkHad : StepKind
WorkHad s w n v after = (j : ℕ) × (v.kind j ≡ Worker) × (x k b : ℕ) × (t : Bool) × ((v.work j).walk ≡ At x k b t) × ((v.work j).half ≡ SecondHalf)
    × (0 < w.born b) × (w.born b < (v.work j).round)
    × (after ≡ state w n (record v {
      work = update v.work j (record (v.work j) {
        walk = Still;
        stood = with_children s b t k (v.work j).stood;
        had = (b, k) ∷ (v.work j).had;
      });
    }))

-- and the NAME words of the block name its other member, which it bisects too
abbrev pub WorkBoth : StepKind
WorkBoth s w n v after = (j : ℕ) × (v.kind j ≡ Worker) × ((v.work j).half ≡ SecondHalf) × (b k i : ℕ) × (t : Bool) × HasEntry (v.work j).had (b, k)
    × (w.name (member_of b t) ≡ i + 1)
    × (after ≡ state w n (record v {
      work = update v.work j
          (record (v.work j) {
            stood = (child_place s.elements b t false, s.child (i + 1) false) ∷ (child_place s.elements b t true, s.child (i + 1) true)
                ∷ (v.work j).stood;
            had = (b, i + 1) ∷ (v.work j).had;
          });
    }))

-- BORN is 0, or the current round: the block is passed by; and in the second half the children of one that was born in the current round stand at the block
abbrev pub WorkPasses : StepKind
WorkPasses s w n v after = (j : ℕ) × (v.kind j ≡ Worker) × (x k b : ℕ) × (t : Bool) × ((v.work j).walk ≡ At x k b t)
    × ((w.born b ≡ 0) ⊎ ((v.work j).round ≤ w.born b))
    × (grown : List (ℕ × ℕ)) × ((grown ≡ (v.work j).grown)
    ⊎ (((v.work j).half ≡ SecondHalf) × ((v.work j).round ≤ w.born b) × (grown ≡ with_children s b t k (v.work j).grown)))
    × (after ≡ state w n (record v { work = update v.work j (record (v.work j) { walk = Past x k b t; grown = grown }) }))

-- in the second half: the block that the last finished round has for a first member is its patch's
abbrev pub WorkGives : StepKind
WorkGives s w n v after = (j : ℕ) × (v.kind j ≡ Worker) × ((v.work j).half ≡ SecondHalf) × (b k : ℕ) × (s.leads k ≡ true) × HasEntry (v.work j).had (b, k)
    × (after ≡ state w n (record v { work = update v.work j (record (v.work j) { given = (b, k) ∷ (v.work j).given }) }))

-- its DIED is above 0, or the LINK of the name's place names nothing or has a retired round: the name is not bisected in the current round
abbrev pub WorkDead : StepKind
WorkDead s w n v after = (j : ℕ) × (v.kind j ≡ Worker) × ((v.work j).half ≡ SecondHalf) × (b k : ℕ) × HasEntry (v.work j).had (b, k) × (0 < w.died b)
    × (after ≡ state w n (record v { work = update v.work j (record (v.work j) { open_ = k ∷ (v.work j).open_ }) }))

-- so it is at the place of a child of a block that was born in the current round, where the
-- LINK may also name a block with no retired round: that was born in the round too
abbrev pub WorkOpen : StepKind
WorkOpen s w n v after = (j : ℕ) × (v.kind j ≡ Worker) × ((v.work j).half ≡ SecondHalf) × (x k : ℕ)
    × (HasEntry (v.work j).stood (x, k) ⊎ HasEntry (v.work j).grown (x, k)) × (open_ : List ℕ) × (grown : List (ℕ × ℕ))
    × (((((w.head x).block ≡ 0) ⊎ (0 < (w.head x).died)) × (open_ ≡ k ∷ (v.work j).open_) × (grown ≡ (v.work j).grown))
    ⊎ ((b : ℕ) × (t : Bool) × HasEntry (v.work j).grown (x, k) × (w.head x ≡ node (b + 1) 0) × (w.name (member_of b t) ≡ k) × (open_ ≡ (v.work j).open_)
    × (grown ≡ with_children s b t k (v.work j).grown)))
    × (after ≡ state w n (record v { work = update v.work j (record (v.work j) { open_ = open_; grown = grown }) }))

-- any seat notes a word that it loads: the node of a LINK word, a HISTORY word, BORN, DIED, NAME or a row
abbrev pub LoadHead : StepKind
LoadHead s w n v after = (j x : ℕ)
    × (after ≡ state w n (record v { owned = update v.owned j (record (v.owned j) { head = (x, w.head x) ∷ (v.owned j).head }) }))

abbrev pub LoadHistory : StepKind
LoadHistory s w n v after = (j x : ℕ)
    × (after ≡ state w n (record v { owned = update v.owned j (record (v.owned j) { history = (x, w.history x) ∷ (v.owned j).history }) }))

abbrev pub LoadBorn : StepKind
LoadBorn s w n v after = (j x : ℕ)
    × (after ≡ state w n (record v { owned = update v.owned j (record (v.owned j) { born = (x, w.born x) ∷ (v.owned j).born }) }))

abbrev pub LoadDied : StepKind
LoadDied s w n v after = (j x : ℕ)
    × (after ≡ state w n (record v { owned = update v.owned j (record (v.owned j) { died = (x, w.died x) ∷ (v.owned j).died }) }))

abbrev pub LoadName : StepKind
LoadName s w n v after = (j x : ℕ)
    × (after ≡ state w n (record v { owned = update v.owned j (record (v.owned j) { name = (x, w.name x) ∷ (v.owned j).name }) }))

abbrev pub LoadRow : StepKind
LoadRow s w n v after = (j x : ℕ) × (after ≡ state w n (record v { owned = update v.owned j (record (v.owned j) { row = (x, w.row x) ∷ (v.owned j).row }) }))
