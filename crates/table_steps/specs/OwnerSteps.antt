-- The owner's loads and notes, the passes that it makes and ends, and the phases of a round.
use Rattle.std.specs.Prelude.{◌≡◌, ℕ, ◌+◌, ◌<◌, ◌≤◌, ◌==◌, cond, List, [], ◌∷◌, ◌++◌, ◌⊎◌, true, false, Bool}
use Rattle.table_words.specs.Claims.{Progress, Living, claim}
use Rattle.table_words.specs.Entries.{HasEntry, EntryAt, Noted}
use Rattle.table_words.specs.Functions.{update}
use Rattle.table_words.specs.Views.{Resting, FirstHalf, SecondHalf, Closing, RollingBack, Worker, Reader, no_plan, Plan, Still, Note, Work, Ruling, unread}
use Rattle.table_words.specs.Views.{owns_nothing, Views, Kind, Vacant, is_reader}
use Rattle.table_words.specs.Words.{Node}
use Rattle.table_state.specs.Fresh.{idle, blank}
use Rattle.table_state.specs.Lists.{IsTarget, IsListed}
use Rattle.table_steps.specs.States.{StepKind, state}

-- RELEASED of a round that was left shows that each pin which the swap of ROUND found was given back: the round is drained
abbrev pub NoteDrained : StepKind
NoteDrained s w n v after = (q k : ℕ) × HasEntry v.ruling.left (q, k) × (w.released q ≡ k)
    × (after ≡ state w n (record v { ruling = record v.ruling { drained = q ∷ v.ruling.drained } }))

-- loads of CURSOR, but in the first half, and of FREE
abbrev pub LoadCursor : StepKind
LoadCursor s w n v after = (v.ruling.phase ≡ FirstHalf → ⊥) × (after ≡ state w n (record v { ruling = record v.ruling { cursor = w.cursor + 1 } }))

abbrev pub LoadFree : StepKind
LoadFree s w n v after = after ≡ state w n (record v { ruling = record v.ruling { free = w.free + 1 } })

-- the block of the last row of the stock is taken into the hand
abbrev pub NoteFree : StepKind
NoteFree s w n v after = (i b : ℕ) × (v.ruling.workers ≡ 0) × (v.ruling.low ≤ i) × (v.ruling.high ≡ i + 1) × Noted (v.owned 0).row i b
    × (after ≡ state w n (record v { ruling = record v.ruling { hand = b ∷ v.ruling.hand; high = i } }))

-- RELEASED of the last finished round, and ROUND after it: with as many pins the round is quiet
abbrev pub LoadReleased : StepKind
LoadReleased s w n v after = after ≡ state w n (record v { ruling = record v.ruling { seen = w.released v.ruling.finished + 1 } })

abbrev pub NoteQuiet : StepKind
NoteQuiet s w n v after = (v.ruling.seen ≡ w.taken + 1) × (after ≡ state w n (record v { ruling = record v.ruling { quiet = true } }))

-- the places of a published block are noted from the owner's claim
abbrev pub NotePlaces : StepKind
NotePlaces s w n v after = (b x m : ℕ) × HasEntry (v.claims 0) (claim x m (Living b))
    × (after ≡ state w n (record v { ruling = record v.ruling { placed = (b, x, m) ∷ v.ruling.placed } }))

-- each claim of the owner has its living block
abbrev pub AllLiving : Views → Type 0
AllLiving v = (x m : ℕ) (p : Progress) → HasEntry (v.claims 0) (claim x m p) → (b : ℕ) × (p ≡ Living b)

-- a pass of this kind may be made, a worker's in one of the halves, or a reader's beside so many; and how many there are with it
abbrev pub CountsPass : ℕ → Ruling → Kind → ℕ → ℕ → Type 0
CountsPass passes u kind workers readers = ((kind ≡ Worker) × ((u.phase ≡ FirstHalf) ⊎ (u.phase ≡ SecondHalf)) × (workers ≡ u.workers + 1)
    × (readers ≡ u.readers))
    ⊎ ((kind ≡ Reader) × (u.readers ≤ passes) × (workers ≡ u.workers) × (readers ≡ u.readers + 1))

-- in the first half worker 0 is made while no other worker's pass is out and each claim
-- of the owner has its living block, and another one while worker 0 is not out
abbrev pub NumbersPass : Views → Kind → ℕ → Bool → Type 0
NumbersPass v kind number lone = (((kind ≡ Reader) ⊎ (v.ruling.phase ≡ SecondHalf)) × (lone ≡ v.ruling.lone))
    ⊎ ((number ≡ 0) × (v.ruling.workers ≡ 0) × AllLiving v × (lone ≡ true)) ⊎ ((0 < number) × (v.ruling.lone ≡ false) × (lone ≡ false))

-- Split: a pass is made, a worker's in one of the halves or a reader's, with what the owner tells it. In the first
-- half a pass of worker 0 is made while no other worker's is out and each claim of the owner has its living block,
-- and none is made while it is out. Where the pass is a worker's, the owner no longer owns any word
abbrev pub SplitStep : StepKind
SplitStep s w n v after = (kind : Kind) × (workers readers : ℕ) × CountsPass s.passes v.ruling kind workers readers
    × (number : ℕ) × (lone : Bool) × NumbersPass v kind number lone
    × (notes : List Note) × ((k : Note) → HasEntry notes k → HasEntry (v.read 0).notes k)
    × (after ≡ state w (n + 1) (record v {
      kind = update v.kind n kind;
      claims = update v.claims n [];
      work = update v.work n (record idle { half = v.ruling.phase; round = v.ruling.finished + 1; number = number; plan = v.ruling.plan });
      owned = update (update v.owned 0 (cond (is_reader kind) (v.owned 0) owns_nothing)) n owns_nothing;
      read = update v.read n (record (blank notes) { told = v.ruling.history; seen = v.ruling.finished; made = v.ruling.finished });
      ruling = record v.ruling { workers = workers; readers = readers; lone = lone };
    }))

-- what the owner knows with what a worker's pass knew
abbrev pub joined_work : Work → Work → Work
joined_work a b = record {
  half = Resting;
  round = 0;
  number = 0;
  plan = no_plan;
  drawn = a.drawn ++ b.drawn;
  found = a.found ++ b.found;
  known = a.known ++ b.known;
  open_ = a.open_ ++ b.open_;
  given = a.given ++ b.given;
  absent = a.absent ++ b.absent;
  stood = a.stood ++ b.stood;
  had = a.had ++ b.had;
  grown = a.grown ++ b.grown;
  retired = a.retired ++ b.retired;
  went = [];
  walk = Still;
}

-- join of a worker's pass: the owner has its claims and what it knew, and owns no word; the seat has nothing left
abbrev pub JoinWorker : StepKind
JoinWorker s w n v after = (j : ℕ) × (j ≡ 0 → ⊥) × (v.kind j ≡ Worker) × (workers : ℕ) × (v.ruling.workers ≡ workers + 1)
    × (after ≡ state w n (record v {
      kind = update v.kind j Vacant;
      claims = update (update v.claims 0 (v.claims 0 ++ v.claims j)) j [];
      work = update (update v.work 0 (joined_work (v.work 0) (v.work j))) j idle;
      owned = update (update v.owned 0 owns_nothing) j owns_nothing;
      read = update v.read j unread;
      ruling = record v.ruling { workers = workers; lone = false };
    }))

-- join of a reader's pass without a pin: the owner has its notes, and the seat has nothing
-- left; the owner sees whether the pass was made before the last finished round was
abbrev pub JoinReader : StepKind
JoinReader s w n v after = (j : ℕ) × (j ≡ 0 → ⊥) × (v.kind j ≡ Reader) × ((v.read j).pin ≡ 0) × (readers early : ℕ) × (v.ruling.readers ≡ readers + 1)
    × ((((v.read j).made < v.ruling.finished) × (v.ruling.early ≡ early + 1)) ⊎ ((v.ruling.finished ≤ (v.read j).made) × (v.ruling.early ≡ early)))
    × (after ≡ state w n (record v {
      kind = update v.kind j Vacant;
      claims = update v.claims j [];
      work = update v.work j idle;
      owned = update v.owned j owns_nothing;
      read = update (update v.read 0 (record (v.read 0) { notes = (v.read 0).notes ++ (v.read j).notes })) j unread;
      ruling = record v.ruling { readers = readers; early = early };
    }))

-- The first half begins, with lists over the last forest of the history
abbrev pub BeginStep : StepKind
BeginStep s w n v after = (plan : Plan) × (names : List ℕ) × EntryAt v.ruling.history v.ruling.finished names × IsTarget s (HasEntry names) plan
    × (v.ruling.finished < s.rounds) × (v.ruling.phase ≡ Resting) × (v.ruling.cursor ≡ 1)
    × (after ≡ state w n (record v { work = update v.work 0 idle; ruling = record v.ruling { phase = FirstHalf; cursor = 0; plan = plan } }))

-- the second half is planned: no pass is at work, each name that the round needs is known as bisected, and each claim has its living block
abbrev pub PlanStep : StepKind
PlanStep s w n v after = (retire : List ℕ) × ((i : ℕ) → HasEntry v.ruling.plan.needs i → HasEntry (v.work 0).known i) × (v.ruling.phase ≡ FirstHalf)
    × (v.ruling.workers ≡ 0) × AllLiving v
    × (after ≡ state w n (record v {
      work = update v.work 0 idle;
      ruling = record v.ruling { phase = SecondHalf; plan = record v.ruling.plan { retire = retire } };
    }))

-- the round is closed: each name of the retire list is known as not bisected
abbrev pub CloseStep : StepKind
CloseStep s w n v after = ((i : ℕ) → IsListed s v.ruling.plan.retire i → HasEntry (v.work 0).open_ i) × (v.ruling.phase ≡ SecondHalf) × (v.ruling.workers ≡ 0)
    × (after ≡ state w n (record v {
      work = update v.work 0 idle;
      ruling = record v.ruling { phase = Closing; retired = (v.work 0).retired ++ v.ruling.retired };
    }))

-- or refused in its first half
abbrev pub RefuseStep : StepKind
RefuseStep s w n v after = (v.ruling.phase ≡ FirstHalf) × (v.ruling.workers ≡ 0)
    × (after ≡ state w n (record v { work = update v.work 0 idle; ruling = record v.ruling { phase = RollingBack } }))

-- and is rolled back once no claim is left
abbrev pub RestoreStep : StepKind
RestoreStep s w n v after = (v.ruling.phase ≡ RollingBack) × (v.claims 0 ≡ [])
    × (after ≡ state w n (record v { work = update v.work 0 idle; ruling = record v.ruling { phase = Resting } }))

-- the owner owns the place's LINK, which names another block than b or has a retired round
abbrev pub IsStamped : Views → ℕ → ℕ → Type 0
IsStamped v x b = (l : Node) × Noted (v.owned 0).head x l × ((l.block ≡ b + 1 → ⊥) ⊎ (0 < l.died))

-- so it is at the places of each block that was retired in the round
abbrev pub AllStamped : Views → Type 0
AllStamped v = (b : ℕ) → HasEntry ((v.work 0).retired ++ v.ruling.retired) b
    → (x : ℕ) × (m : ℕ) × HasEntry v.ruling.placed (b, x, m) × IsStamped v x b × ((y : ℕ) → m ≡ y + 1 → IsStamped v y b)

-- advance: no claim is left, and the LINK words of each block that was retired in the
-- round are stamped; the history gets the target less the retire list's patches
abbrev pub AdvanceStep : StepKind
AdvanceStep s w n v after = (forest : List ℕ) × ((i : ℕ) → HasEntry forest i → HasEntry v.ruling.plan.target i × (IsListed s v.ruling.plan.retire i → ⊥))
    × ((i : ℕ) → HasEntry v.ruling.plan.target i → (IsListed s v.ruling.plan.retire i → ⊥) → HasEntry forest i) × (v.ruling.phase ≡ Closing) × (v.claims 0 ≡ [])
    × AllStamped v
    × (after ≡ state (record w { round = w.round + 1; taken = 0 }) n (record v {
      work = update v.work 0 idle;
      ruling = record v.ruling {
        phase = Resting;
        finished = v.ruling.finished + 1;
        early = v.ruling.readers;
        history = v.ruling.history ++ forest ∷ [];
        left = (w.round, w.taken) ∷ v.ruling.left;
        retired = [];
        kept = ((v.work 0).retired ++ v.ruling.retired) ++ v.ruling.kept;
        seen = 0;
        quiet = false;
      };
    }))
