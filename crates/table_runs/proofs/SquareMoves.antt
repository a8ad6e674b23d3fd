-- What the seats know after each kind of step, as functions of what they knew before.
use Rattle.std.proofs.Common.{ℕ, ◌+◌, ◌++◌, Bool, true, false, List, [], ◌∷◌}
use Rattle.table_words.specs.Claims.{Progress, Claimed, Failed, Drawn, claim, moved_on, ended}
use Rattle.table_words.specs.Functions.{update}
use Rattle.table_words.specs.Places.{child_place}
use Rattle.table_words.specs.Setup.{Setup}
use Rattle.table_words.specs.Views.{Views, Plan, Still, At, Past, unread, owns_nothing, Vacant, Resting, FirstHalf, SecondHalf, Closing, RollingBack, Worker, Reader}
use Rattle.table_words.specs.Words.{Node}
use Rattle.table_state.specs.Fresh.{idle, blank}
use Rattle.table_steps.specs.OwnerSteps.{joined_work}
use Rattle.table_steps.specs.SweepSteps.{noted_at}

-- the owner's: a round begins, is planned, closed, advanced, refused and restored
abbrev pub begun : Plan → Views → Views
begun plan v = record v { work = update v.work 0 idle; ruling = record v.ruling { phase = FirstHalf; cursor = 0; plan = plan } }

abbrev pub planned : List ℕ → Views → Views
planned retire v = record v { work = update v.work 0 idle; ruling = record v.ruling { phase = SecondHalf; plan = record v.ruling.plan { retire = retire } } }

abbrev pub closed : Views → Views
closed v = record v { work = update v.work 0 idle; ruling = record v.ruling { phase = Closing; retired = (v.work 0).retired ++ v.ruling.retired } }

abbrev pub advanced : List ℕ → ℕ → ℕ → Views → Views
advanced forest q taken v = record v { work = update v.work 0 idle; ruling = record v.ruling { phase = Resting; finished = v.ruling.finished + 1; early = v.ruling.readers; history = v.ruling.history ++ forest ∷ []; left = (q, taken) ∷ v.ruling.left; retired = []; kept = ((v.work 0).retired ++ v.ruling.retired) ++ v.ruling.kept; seen = 0; quiet = false } }

abbrev pub refused : Views → Views
refused v = record v { work = update v.work 0 idle; ruling = record v.ruling { phase = RollingBack } }

abbrev pub restored : Views → Views
restored v = record v { work = update v.work 0 idle; ruling = record v.ruling { phase = Resting } }

-- it makes the passes n and joins a worker's, after which so many are out
abbrev pub worker_made : ℕ → ℕ → Views → Views
worker_made n number v = record v { kind = update v.kind n Worker; claims = update v.claims n []; work = update v.work n (record idle { half = v.ruling.phase; round = v.ruling.finished + 1; number = number; plan = v.ruling.plan }); owned = update (update v.owned 0 owns_nothing) n owns_nothing; read = update v.read n (record (blank []) { told = v.ruling.history; seen = v.ruling.finished; made = v.ruling.finished }); ruling = record v.ruling { workers = v.ruling.workers + 1; lone = false } }

abbrev pub reader_made : ℕ → Views → Views
reader_made n v = record v { kind = update v.kind n Reader; claims = update v.claims n []; work = update v.work n (record idle { half = v.ruling.phase; round = v.ruling.finished + 1; number = 1; plan = v.ruling.plan }); owned = update (update v.owned 0 (v.owned 0)) n owns_nothing; read = update v.read n (record (blank []) { told = v.ruling.history; seen = v.ruling.finished; made = v.ruling.finished }); ruling = record v.ruling { readers = v.ruling.readers + 1 } }

abbrev pub joined : ℕ → ℕ → Views → Views
joined j workers v = record v { kind = update v.kind j Vacant; claims = update (update v.claims 0 (v.claims 0 ++ v.claims j)) j []; work = update (update v.work 0 (joined_work (v.work 0) (v.work j))) j idle; owned = update (update v.owned 0 owns_nothing) j owns_nothing; read = update v.read j unread; ruling = record v.ruling { workers = workers; lone = false } }

-- and notes numbers, blocks and rounds
abbrev pub cursor_seen : ℕ → Views → Views
cursor_seen c v = record v { ruling = record v.ruling { cursor = c + 1 } }

abbrev pub free_seen : ℕ → Views → Views
free_seen k v = record v { ruling = record v.ruling { free = k + 1 } }

-- FREE becomes 0, where CURSOR and FREE were c and k, the block of the last row of the stock is taken into the hand, and FREE becomes k, with nothing left in the hand
abbrev pub stopped_at : ℕ → ℕ → Views → Views
stopped_at c k v = record v { ruling = record v.ruling { free = 1; low = c; high = k } }

abbrev pub takes_row : ℕ → ℕ → Views → Views
takes_row i b v = record v { ruling = record v.ruling { hand = b ∷ v.ruling.hand; high = i } }

abbrev pub opened_at : ℕ → Views → Views
opened_at k v = record v { ruling = record v.ruling { hand = []; free = k + 1; low = 0; high = 0 } }

abbrev pub placed_at : ℕ → ℕ → ℕ → Views → Views
placed_at b x m v = record v { ruling = record v.ruling { placed = (b, x, m) ∷ v.ruling.placed } }

abbrev pub cleared : ℕ → Views → Views
cleared q v = record v { ruling = record v.ruling { drained = q ∷ v.ruling.drained } }

-- claims, and how far they come
abbrev pub claims_at : ℕ → ℕ → ℕ → Views → Views
claims_at j x m v = record v { claims = update v.claims j (claim x m Claimed ∷ v.claims j); owned = update v.owned j owns_nothing }

abbrev pub draws_for : ℕ → ℕ → ℕ → ℕ → Views → Views
draws_for j x c b v = record v { claims = update v.claims j (moved_on (v.claims j) x (Drawn b)); work = update v.work j (record (v.work j) { drawn = (c, b + 1) ∷ (v.work j).drawn }); owned = update v.owned j owns_nothing }

abbrev pub draws_none : ℕ → ℕ → ℕ → Views → Views
draws_none j x c v = record v { claims = update v.claims j (moved_on (v.claims j) x Failed); work = update v.work j (record (v.work j) { drawn = (c, 0) ∷ (v.work j).drawn }); owned = update v.owned j owns_nothing }

abbrev pub comes_to : ℕ → ℕ → Progress → Views → Views
comes_to j x p v = record v { claims = update v.claims j (moved_on (v.claims j) x p) }

abbrev pub unclaims : ℕ → ℕ → Progress → Views → Views
unclaims x m p v = record v { claims = update v.claims 0 (ended (v.claims 0) x); ruling = record v.ruling { placed = noted_at v.ruling.placed x m p } }

abbrev pub undraws : ℕ → ℕ → Views → Views
undraws x b v = record v { claims = update v.claims 0 (ended (v.claims 0) x); ruling = record v.ruling { hand = b ∷ v.ruling.hand } }

-- words of which a seat is sure
abbrev pub owned_head : ℕ → ℕ → Node → Views → Views
owned_head j x l v = record v { owned = update v.owned j (record (v.owned j) { head = (x, l) ∷ (v.owned j).head }) }

abbrev pub owned_history : ℕ → ℕ → Node → Views → Views
owned_history j x l v = record v { owned = update v.owned j (record (v.owned j) { history = (x, l) ∷ (v.owned j).history }) }

abbrev pub owned_born : ℕ → ℕ → ℕ → Views → Views
owned_born j b k v = record v { owned = update v.owned j (record (v.owned j) { born = (b, k) ∷ (v.owned j).born }) }

abbrev pub owned_died : ℕ → ℕ → ℕ → Views → Views
owned_died j b k v = record v { owned = update v.owned j (record (v.owned j) { died = (b, k) ∷ (v.owned j).died }) }

abbrev pub owned_name : ℕ → ℕ → ℕ → Views → Views
owned_name j i k v = record v { owned = update v.owned j (record (v.owned j) { name = (i, k) ∷ (v.owned j).name }) }

abbrev pub owned_row : ℕ → ℕ → ℕ → Views → Views
owned_row j i b v = record v { owned = update v.owned j (record (v.owned j) { row = (i, b) ∷ (v.owned j).row }) }

-- a worker's walk, and what it finds of the name k
abbrev pub found_at : ℕ → ℕ → ℕ → Views → Views
found_at j x k v = record v { work = update v.work j (record (v.work j) { found = (x, k) ∷ (v.work j).found }) }

abbrev pub finds_absent : ℕ → ℕ → Views → Views
finds_absent j k v = record v { work = update v.work j (record (v.work j) { walk = Still; absent = k ∷ (v.work j).absent }) }

abbrev pub goes_to : ℕ → ℕ → ℕ → ℕ → Bool → Views → Views
goes_to j x k b t v = record v { work = update v.work j (record (v.work j) { went = b ∷ (v.work j).went; walk = At x k b t }) }

abbrev pub passes_by : ℕ → ℕ → ℕ → ℕ → Bool → Views → Views
passes_by j x k b t v = record v { work = update v.work j (record (v.work j) { walk = Past x k b t }) }

abbrev pub finds_known : Setup → ℕ → ℕ → ℕ → Bool → Views → Views
finds_known s j k b t v = record v { work = update v.work j (record (v.work j) { walk = Still; found = (child_place s.elements b t false, s.child k false) ∷ (child_place s.elements b t true, s.child k true) ∷ (v.work j).found; known = k ∷ (v.work j).known }) }

abbrev pub finds_had : Setup → ℕ → ℕ → ℕ → Bool → Views → Views
finds_had s j k b t v = record v { work = update v.work j (record (v.work j) { walk = Still; stood = (child_place s.elements b t false, s.child k false) ∷ (child_place s.elements b t true, s.child k true) ∷ (v.work j).stood; had = (b, k) ∷ (v.work j).had }) }

-- the other member with the first, and children of blocks that were born in the round
abbrev pub finds_both : Setup → ℕ → ℕ → ℕ → Bool → Views → Views
finds_both s j k b t v = record v { work = update v.work j (record (v.work j) { stood = (child_place s.elements b t false, s.child k false) ∷ (child_place s.elements b t true, s.child k true) ∷ (v.work j).stood; had = (b, k) ∷ (v.work j).had }) }

abbrev pub passes_grown : Setup → ℕ → ℕ → ℕ → ℕ → Bool → Views → Views
passes_grown s j x k b t v = record v { work = update v.work j (record (v.work j) { walk = Past x k b t; grown = (child_place s.elements b t false, s.child k false) ∷ (child_place s.elements b t true, s.child k true) ∷ (v.work j).grown }) }

abbrev pub grows : Setup → ℕ → ℕ → ℕ → Bool → Views → Views
grows s j k b t v = record v { work = update v.work j (record (v.work j) { grown = (child_place s.elements b t false, s.child k false) ∷ (child_place s.elements b t true, s.child k true) ∷ (v.work j).grown }) }

abbrev pub is_given : ℕ → ℕ → ℕ → Views → Views
is_given j b k v = record v { work = update v.work j (record (v.work j) { given = (b, k) ∷ (v.work j).given }) }

abbrev pub opens : ℕ → ℕ → Views → Views
opens j k v = record v { work = update v.work j (record (v.work j) { open_ = k ∷ (v.work j).open_ }) }

-- it knows the names as bisected, or as not bisected, and retires a block
abbrev pub knows : ℕ → ℕ → Progress → List ℕ → Views → Views
knows j x p known v = record v { claims = update v.claims j (moved_on (v.claims j) x p); work = update v.work j (record (v.work j) { known = known }) }

abbrev pub retires : ℕ → ℕ → List ℕ → Views → Views
retires j b names v = record v { work = update v.work j (record (v.work j) { open_ = names; retired = b ∷ (v.work j).retired }) }

abbrev pub opens_all : ℕ → List ℕ → Views → Views
opens_all j names v = record v { work = update v.work j (record (v.work j) { open_ = names }) }

-- a reader's: it sees the round q, pins it, and walks
abbrev pub sees_round : ℕ → Bool → ℕ → Views → Views
sees_round j ready q v = record v { read = update v.read j (record (v.read j) { ready = ready; seen = q }) }

abbrev pub pins_round : ℕ → ℕ → Views → Views
pins_round j q v = record v { read = update v.read j (record (v.read j) { pin = q + 1; ready = false; went = []; walk = Still; places = []; seen = q }) }

abbrev pub reads_to : ℕ → ℕ → ℕ → ℕ → Bool → Views → Views
reads_to j x k b t v = record v { read = update v.read j (record (v.read j) { went = b ∷ (v.read j).went; walk = At x k b t }) }

abbrev pub reads_by : ℕ → ℕ → ℕ → ℕ → Bool → Views → Views
reads_by j x k b t v = record v { read = update v.read j (record (v.read j) { walk = Past x k b t }) }

abbrev pub reads_absent : ℕ → ℕ → ℕ → Views → Views
reads_absent j q k v = record v { read = update v.read j (record (v.read j) { walk = Still; notes = record { round = q; name = k; bisected = false } ∷ (v.read j).notes }) }
