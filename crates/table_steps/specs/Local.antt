-- What a step changes: it writes at most one word, which the seat that steps may write,
-- and the view of that seat, but at split and join, where there is another seat.
use Rattle.std.specs.Prelude.{◌≡◌, ℕ, ◌+◌, Bool, ◌⊎◌}
use Rattle.table_words.specs.Claims.{Claimed, Drawn, Half, Whole, claim}
use Rattle.table_words.specs.Entries.{HasEntry}
use Rattle.table_words.specs.Functions.{update}
use Rattle.table_words.specs.Writes.{Write, WriteNothing, WriteRound, WriteCursor, WriteFree, WriteReleased, WriteRow, WriteClaim, WriteLink, WriteLinkAndClaim}
use Rattle.table_words.specs.Writes.{WriteHistory, WriteBorn, WriteDied, WriteName, written}
use Rattle.table_words.specs.Places.{member_of, child_place}
use Rattle.table_words.specs.Setup.{Setup}
use Rattle.table_words.specs.Words.{Node, node, Words}
use Rattle.table_words.specs.Views.{Resting, FirstHalf, SecondHalf, Closing, Worker, Reader, Owner, Views}
use Rattle.table_state.specs.Ghosts.{Life, Loose}
use Rattle.table_state.specs.Laws.{Always}
use Rattle.table_steps.specs.States.{State}
use Rattle.table_steps.specs.Steps.{Step}

-- the functions agree but at j and k
abbrev pub ChangesAt : {A : Type 0} → ℕ → ℕ → (ℕ → A) → (ℕ → A) → Type 0
ChangesAt {A} j k f g = (g ≡ f) ⊎ ((a : A) × (g ≡ update f j a)) ⊎ ((a : A) × (g ≡ update f k a)) ⊎ ((a b : A) × (g ≡ update (update f j a) k b))

-- each part of the views stays but at the seats j and k, and the owner's rule but where j is its seat
abbrev pub ChangesViews : ℕ → ℕ → Views → Views → Type 0
ChangesViews j k a b = ChangesAt j k a.kind b.kind × ChangesAt j k a.claims b.claims × ChangesAt j k a.work b.work × ChangesAt j k a.owned b.owned
    × ChangesAt j k a.read b.read × ((b.ruling ≡ a.ruling) ⊎ (j ≡ 0))

-- the block c was drawn for a claim of the seat, and is not linked yet
abbrev pub HasDrawn : Views → ℕ → ℕ → Type 0
HasDrawn v j c = (x m : ℕ) × HasEntry (v.claims j) (claim x m (Drawn c))

-- the member h is of such a block
abbrev pub FillsMember : Views → ℕ → ℕ → Type 0
FillsMember v j h = (c : ℕ) × (t : Bool) × HasDrawn v j c × (h ≡ member_of c t)

-- the LINK word of x is of a child of such a block; or it is of the first or second place of a claim of the seat, and l leads to the claim's block
abbrev pub LeadsLink : Setup → Views → ℕ → ℕ → Node → Type 0
LeadsLink s v j x l = ((c : ℕ) × (t u : Bool) × HasDrawn v j c × (x ≡ child_place s.elements c t u))
    ⊎ ((c : ℕ) × (((m : ℕ) × HasEntry (v.claims j) (claim x m (Drawn c))) ⊎ ((y : ℕ) × HasEntry (v.claims j) (claim y (x + 1) (Half c))))
    × (l ≡ node (c + 1) 0))

-- A worker's pass sets a claim bit, draws for its claim, fills the block that it drew, leads the LINK
-- words of its claim's places to it, sets its BORN, and DIED of a block that it found for a patch
abbrev pub WorkerWrites : Setup → Words → Views → ℕ → Write → Type 0
WorkerWrites s w v j WriteNothing = Unit {0}
WorkerWrites s w v j (WriteRound r t) = ⊥
WorkerWrites s w v j (WriteCursor k) = (k ≡ w.cursor + 1) × ((x m : ℕ) × HasEntry (v.claims j) (claim x m Claimed))
WorkerWrites s w v j (WriteFree k) = ⊥
WorkerWrites s w v j (WriteReleased q k) = ⊥
WorkerWrites s w v j (WriteRow i k) = ⊥
WorkerWrites s w v j (WriteClaim x k) = (w.claimed x ≡ 0) × (k ≡ 1)
WorkerWrites s w v j (WriteLink x l) = LeadsLink s v j x l
WorkerWrites s w v j (WriteLinkAndClaim x l k) = ⊥
WorkerWrites s w v j (WriteHistory h l) = FillsMember v j h
WorkerWrites s w v j (WriteBorn c k) = (k ≡ (v.work j).round) × ((x m : ℕ) × HasEntry (v.claims j) (claim x m (Whole c)))
WorkerWrites s w v j (WriteDied c k) = HasDrawn v j c ⊎ ((w.died c ≡ 0) × (k ≡ (v.work j).round) × ((n : ℕ) × HasEntry (v.work j).given (c, n)))
WorkerWrites s w v j (WriteName h k) = FillsMember v j h

-- a reader's pass takes a pin of the round that ROUND shows, and gives its own back
abbrev pub ReaderWrites : Words → Views → ℕ → Write → Type 0
ReaderWrites w v j WriteNothing = Unit {0}
ReaderWrites w v j (WriteRound r t) = (r ≡ w.round) × (t ≡ w.taken + 1) × ((v.read j).pin ≡ 0)
ReaderWrites w v j (WriteCursor k) = ⊥
ReaderWrites w v j (WriteFree k) = ⊥
ReaderWrites w v j (WriteReleased q k) = (k ≡ w.released q + 1) × ((v.read j).pin ≡ q + 1)
ReaderWrites w v j (WriteRow i k) = ⊥
ReaderWrites w v j (WriteClaim x k) = ⊥
ReaderWrites w v j (WriteLink x l) = ⊥
ReaderWrites w v j (WriteLinkAndClaim x l k) = ⊥
ReaderWrites w v j (WriteHistory h l) = ⊥
ReaderWrites w v j (WriteBorn c k) = ⊥
ReaderWrites w v j (WriteDied c k) = ⊥
ReaderWrites w v j (WriteName h k) = ⊥

-- The owner ends a closed round; between rounds it writes CURSOR, FREE, rows and HISTORY words; it takes
-- claim bits away, writes LINK words, and sets BORN to 0, and DIED of a block that was rolled back
abbrev pub OwnerWrites : Words → Views → Write → Type 0
OwnerWrites w v WriteNothing = Unit {0}
OwnerWrites w v (WriteRound r t) = (r ≡ w.round + 1) × (t ≡ 0) × (v.ruling.phase ≡ Closing)
OwnerWrites w v (WriteCursor k) = (k ≡ 0) × (v.ruling.phase ≡ Resting)
OwnerWrites w v (WriteFree k) = v.ruling.phase ≡ Resting
OwnerWrites w v (WriteReleased q k) = ⊥
OwnerWrites w v (WriteRow i k) = v.ruling.phase ≡ Resting
OwnerWrites w v (WriteClaim x k) = k ≡ 0
OwnerWrites w v (WriteLink x l) = Unit {0}
OwnerWrites w v (WriteLinkAndClaim x l k) = k ≡ 0
OwnerWrites w v (WriteHistory h l) = v.ruling.phase ≡ Resting
OwnerWrites w v (WriteBorn c k) = k ≡ 0
OwnerWrites w v (WriteDied c k) = (k ≡ v.ruling.finished + 1) × HasEntry v.ruling.rolled_back c
OwnerWrites w v (WriteName h k) = ⊥

-- the seat j may write so: nothing, or a word that its kind of seat may write, which the owner does in neither half
abbrev pub MayWrite : Setup → Words → Views → ℕ → Write → Type 0
MayWrite s w v j u = (u ≡ WriteNothing) ⊎ ((v.kind j ≡ Worker) × WorkerWrites s w v j u) ⊎ ((v.kind j ≡ Reader) × ReaderWrites w v j u)
    ⊎ ((j ≡ 0) × ((v.ruling.phase ≡ FirstHalf → ⊥) × (v.ruling.phase ≡ SecondHalf → ⊥)) × OwnerWrites w v u)

-- one write is made, by the seat j, which steps; another seat k changes only by a step of the owner, and one is made only then
abbrev pub IsLocal : Setup → Words → ℕ → Views → State → Type 0
IsLocal s w n v b = (u : Write) × (b.words ≡ written w u)
    × ((j k : ℕ) × MayWrite s w v j u × ((k ≡ j) ⊎ (j ≡ 0)) × ((b.seats ≡ n) ⊎ ((j ≡ 0) × (k ≡ n) × (b.seats ≡ n + 1))) × ChangesViews j k v b.views)

-- the law that each step writes at most one word, which its seat may write so, and changes
-- the view of that seat alone, but for the seat that a split makes or a join ends
abbrev pub StepsLocal : Type 0
StepsLocal = (s : Setup) (a b : State) → Step s a b → IsLocal s a.words a.seats a.views b

-- a write of a reader's pass leaves all words but how many pins are taken, and RELEASED
abbrev pub ReaderLeaves : Words → Words → Type 0
ReaderLeaves w b = (b.round ≡ w.round) × (b.cursor ≡ w.cursor) × (b.free ≡ w.free) × (b.row ≡ w.row) × (b.claimed ≡ w.claimed) × (b.head ≡ w.head)
    × (b.history ≡ w.history) × (b.born ≡ w.born) × (b.died ≡ w.died) × (b.name ≡ w.name)

-- one of a worker's pass leaves the round, pins, FREE and the rows; CURSOR rises by 1 at most, and a claim bit that is set stays
abbrev pub WorkerLeaves : Words → Words → Type 0
WorkerLeaves w b = (b.round ≡ w.round) × (b.taken ≡ w.taken) × (b.free ≡ w.free) × (b.released ≡ w.released) × (b.row ≡ w.row)
    × ((b.cursor ≡ w.cursor) ⊎ (b.cursor ≡ w.cursor + 1)) × ((x : ℕ) → (b.claimed x ≡ w.claimed x) ⊎ ((w.claimed x ≡ 0) × (b.claimed x ≡ 1)))

-- and one of the owner leaves RELEASED and names; CURSOR, a claim bit and BORN of a block become nothing but 0
abbrev pub OwnerLeaves : Words → Words → Type 0
OwnerLeaves w b = (b.released ≡ w.released) × (b.name ≡ w.name) × ((b.cursor ≡ w.cursor) ⊎ (b.cursor ≡ 0))
    × ((x : ℕ) → ((b.claimed x ≡ w.claimed x) ⊎ (b.claimed x ≡ 0)) × ((b.born x ≡ w.born x) ⊎ (b.born x ≡ 0)))

-- the law of what a seat's write leaves as it was; in both halves the owner leaves all words
abbrev pub WritesLeave : Type 0
WritesLeave = (s : Setup) (w : Words) (v : Views) (j : ℕ) (u : Write) → MayWrite s w v j u → ((j ≡ 0 → ⊥) → (v.kind j ≡ Reader → ReaderLeaves w (written w u))
    × (v.kind j ≡ Worker → WorkerLeaves w (written w u)))
    × (v.kind j ≡ Owner → OwnerLeaves w (written w u) × ((v.ruling.phase ≡ FirstHalf) ⊎ (v.ruling.phase ≡ SecondHalf) → written w u ≡ w))

-- the block was drawn and is in no chain
abbrev pub IsLoose : (ℕ → Life) → ℕ → Type 0
IsLoose life c = (u : ℕ) × (life c ≡ Loose u)

-- From w to b a worker's pass has changed HISTORY and NAME words of a block in no chain alone; DIED of such a block, or from 0 to the current
-- round; BORN from 0 to the current round; and LINK words of children of a block in no chain, or so that they name a block with BORN 0
abbrev pub WorkerChanges : ℕ → (ℕ → Life) → Words → Words → Type 0
WorkerChanges e life w b = ((h : ℕ) → ((b.history h ≡ w.history h) × (b.name h ≡ w.name h)) ⊎ ((c : ℕ) × (t : Bool) × (h ≡ member_of c t) × IsLoose life c))
    × ((c : ℕ) → (b.died c ≡ w.died c) ⊎ IsLoose life c ⊎ ((w.died c ≡ 0) × (b.died c ≡ w.round + 1)))
    × ((c : ℕ) → (b.born c ≡ w.born c) ⊎ ((w.born c ≡ 0) × (b.born c ≡ w.round + 1)))
    × ((x : ℕ) → (b.head x ≡ w.head x) ⊎ ((c : ℕ) × (t u : Bool) × (x ≡ child_place e c t u) × IsLoose life c)
    ⊎ ((c : ℕ) × (w.born c ≡ 0) × (b.head x ≡ node (c + 1) 0)))

-- the law that a write of a worker's pass changes blocks and LINK words of a lawful state so alone
abbrev pub WorkersChange : Type 0
WorkersChange = Always (λ s w n v g. (j : ℕ) (u : Write) → v.kind j ≡ Worker → MayWrite s w v j u → WorkerChanges s.elements g.life w (written w u))
