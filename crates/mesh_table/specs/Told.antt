-- What a step asks of the view of its seat, and what it tells.
use Rattle.std.specs.Prelude.{◌≡◌, ℕ, zero, suc, ◌+◌, ◌*◌, ◌/◌, ◌%◌, ◌<◌, ◌≤◌, Bool, false, true, List, [], ◌∷◌, ◌++◌, cond, ◌==◌, ltb, ◌⊎◌, Option, Some, None}
use Rattle.std.specs.Prelude.{◌&&◌}
use Rattle.atomic_table.specs.declared.shared.Seat.{Seat}
use Rattle.atomic_table.specs.Seated.{TableId}
use Rattle.mesh_names.specs.Names.{Name}
use Rattle.table_words.specs.declared.layout.Layout.{Layout}
use Rattle.table_words.specs.declared.layout.ElemAt.{ElemAt}
use Rattle.table_words.specs.Claims.{Progress, Claimed, Failed, Drawn, Half, Whole, Living, claim, moved_on}
use Rattle.table_words.specs.Entries.{HasEntry, Noted}
use Rattle.table_words.specs.NameWords.{name_code}
use Rattle.table_words.specs.Places.{place_number, member_of, child_place}
use Rattle.table_words.specs.Setup.{Setup}
use Rattle.table_words.specs.Views.{Worker, Reader, FirstHalf, owns_nothing, Still, At, Past}
use Rattle.table_words.specs.Words.{Node, node, node_of}
use Rattle.table_state.specs.Ghosts.{Placed, stands}
use Rattle.mesh_table.specs.Saw.{SawClaim, SawDraw, SawFree, SawEnd, SawBisected, SawBirth}
use Rattle.mesh_table.specs.Lost.{ClaimLost}
use Rattle.mesh_table.specs.Sights.{Sight}
use Rattle.mesh_table.specs.Holds.{Sat}

-- what a call tells its step: places, a block, one of its members
pub record Ask : Type 0 where
  pub place : ℕ
  pub mate : ℕ
  pub block : ℕ
  pub second : Bool
  pub value : ℕ

abbrev pub no_ask : Ask
no_ask = record { place = 0; mate = 0; block = 0; second = false; value = 0 }

abbrev pub sight : Seat (Unit {0}) Sight → Sight
sight o = o.me.0

-- the seat is of this table
abbrev pub IsOf : TableId → Seat (Unit {0}) Sight → Type 0
IsOf id o = (o.table_id ≡ id) × (o.me.1 ≡ [])

-- the seat is the one that it was
abbrev pub Stays : Seat (Unit {0}) Sight → Seat (Unit {0}) Sight → Type 0
Stays o p = (p.table_id ≡ o.table_id) × (p.id ≡ o.id) × (p.me.1 ≡ o.me.1)

-- one more than the number of a second place, or 0
abbrev pub mate_number : Layout → Option ElemAt → ℕ
mate_number l None = 0
mate_number l (Some at) = place_number l at + 1

-- the view with a claim
abbrev pub claimed : Sight → ℕ → ℕ → ℕ → Sight
claimed v x m n = record v { claims = claim x m Claimed ∷ v.claims; owned = owns_nothing; saw = SawClaim x n ∷ v.saw }

-- a worker's pass may claim the patch of the name that it found at the place
pub record MayClaim (s : Setup) (v : Sight) (x m k : ℕ) : Type 0 where
  pub works : v.kind ≡ Worker
  pub leads : s.leads k ≡ true
  pub absent : HasEntry v.work.absent k ⊎ ((i : ℕ) × (s.mate k ≡ i + 1) × HasEntry v.work.absent (i + 1))
  pub aimed : HasEntry v.work.plan.target k
  pub found : HasEntry v.work.found (x, k)
  pub mates : ((m ≡ 0) × (s.mate k ≡ 0)) ⊎ ((y : ℕ) × (i : ℕ) × (m ≡ y + 1) × (s.mate k ≡ i + 1) × HasEntry v.work.found (y, i + 1))

-- a claim of the place x that found the number n: the claim is there where n is even
abbrev pub claim_told : Setup → ℕ → ℕ → ℕ → Sat → ℕ → Sat → Type 0
claim_told s x m k a n b = (b.1 ≡ a.1) × (n % 2 ≡ 0 → b.0 ≡ claimed a.0 x m n) × (n % 2 ≡ 1 → ClaimLost s a.0 b.0 x k n)

-- the view after the draw i for the claim of x, which got c, one more than a block or 0
abbrev pub drawn : Sight → ℕ → ℕ → ℕ → Progress → Sight
drawn v x i c p = record v {
  claims = moved_on v.claims x p;
  work = record v.work { drawn = (i, c) ∷ v.work.drawn };
  owned = owns_nothing;
  saw = SawDraw i ∷ v.saw;
}

-- a draw gets no block, or one, which the pass does not know yet
abbrev pub DrawTells : Sight → ℕ → ℕ → Sight → Type 0
DrawTells v x i u = (u ≡ drawn v x i 0 Failed) ⊎ ((b : ℕ) × (u ≡ drawn v x i (b + 1) (Drawn b)))

abbrev pub draws_told : Ask → Sat → ℕ → Sat → Type 0
draws_told q m n m' = (m'.1 ≡ m.1) × DrawTells m.0 q.place n m'.0

abbrev pub saw_free : Sight → ℕ → Sight
saw_free v n = record v { saw = SawFree n ∷ v.saw }

-- FREE tells which draws got a block; and no two names were found at one place
abbrev pub free_told : Ask → Sat → ℕ → Sat → Type 0
free_told q m n m' = (m'.1 ≡ m.1) × (m'.0 ≡ saw_free m.0 n) × ((x a b : ℕ) → HasEntry m.0.work.found (x, a) → HasEntry m.0.work.found (x, b) → a ≡ b)
    × (n ≤ q.value) × ((i c : ℕ) → HasEntry m.0.work.drawn (i, c) → (n ≤ i → c ≡ 0) × (i < n → 0 < c))

-- and a row which block
abbrev pub row_told : Ask → Sat → ℕ → Sat → Type 0
row_told q m n m' = (m' ≡ m) × ((b : ℕ) → HasEntry m.0.work.drawn (q.place, b + 1) → (b ≡ n) × (n < q.value))

-- the seat's view becomes what `next` makes of it and of the number found, or stored
abbrev pub moved : (ℕ → Sight → Sight) → Sat → ℕ → Sat → Type 0
moved next m n m' = (m'.1 ≡ m.1) × (m'.0 ≡ next n m.0)

abbrev pub noted_head : Sight → ℕ → Node → Sight
noted_head v x l = record v { owned = record v.owned { head = (x, l) ∷ v.owned.head } }

abbrev pub noted_history : Sight → ℕ → Node → Sight
noted_history v h l = record v { owned = record v.owned { history = (h, l) ∷ v.owned.history } }

abbrev pub noted_died : Sight → ℕ → ℕ → Sight
noted_died v b n = record v { owned = record v.owned { died = (b, n) ∷ v.owned.died } }

abbrev pub noted_name : Sight → ℕ → ℕ → Sight
noted_name v h n = record v { owned = record v.owned { name = (h, n) ∷ v.owned.name } }

-- the pass drew the block for a claim, and has linked no member to it
abbrev pub MayFill : Sight → ℕ → Type 0
MayFill v b = (v.kind ≡ Worker) × ((x m : ℕ) × HasEntry v.claims (claim x m (Drawn b)))

-- how far a claim comes by the first link: a patch of one member is linked whole
abbrev pub by_link : ℕ → ℕ → Progress
by_link zero b = Whole b
by_link (suc y) b = Half b

-- the view with a claim that has come to p
abbrev pub come : Sight → ℕ → Progress → Sight
come v x p = record v { claims = moved_on v.claims x p }

-- the nine words of the block are filled with the patch of the name, and with the old contents of its members' LINK words
pub record MayLink (s : Setup) (v : Sight) (x m b k : ℕ) : Type 0 where
  pub works : v.kind ≡ Worker
  pub drew : HasEntry v.claims (claim x m (Drawn b))
  pub died : Noted v.owned.died b 0
  pub first : Noted v.owned.name (member_of b false) k
  pub second : Noted v.owned.name (member_of b true) (s.mate k)
  pub leads : s.leads k ≡ true
  pub children : (t c : Bool) → Noted v.owned.head (child_place s.elements b t c) (node 0 0)
  pub olds : (t : Bool) (y : ℕ) → stands (Placed x m) t ≡ y + 1 → (l : Node) × Noted v.owned.head y l × Noted v.owned.history (member_of b t) l
  pub found : HasEntry v.work.found (x, k)
  pub mates : ((m ≡ 0) × (s.mate k ≡ 0)) ⊎ ((y : ℕ) × (i : ℕ) × (m ≡ y + 1) × (s.mate k ≡ i + 1) × HasEntry v.work.found (y, i + 1))

pub record MayLinkOn (v : Sight) (x y b : ℕ) : Type 0 where
  pub works : v.kind ≡ Worker
  pub half : HasEntry v.claims (claim x (y + 1) (Half b))
  pub old : (l : Node) × Noted v.owned.head y l × Noted v.owned.history (member_of b true) l

-- the codes of a name, and of a second one
abbrev pub codes : Name → Option Name → List ℕ
codes n None = name_code n ∷ []
codes n (Some m) = name_code n ∷ name_code m ∷ []

pub record MayPublish (v : Sight) (x m b : ℕ) (names : List ℕ) : Type 0 where
  pub works : v.kind ≡ Worker
  pub whole : HasEntry v.claims (claim x m (Whole b))
  pub named : (k : ℕ) → HasEntry names k → (y : ℕ) × ((y ≡ x) ⊎ (m ≡ y + 1)) × HasEntry v.work.found (y, k)

-- the view with a living block and its names
abbrev pub published : Sight → ℕ → ℕ → List ℕ → Sight
published v x b names = record v { claims = moved_on v.claims x (Living b); work = record v.work { known = names ++ v.work.known }; saw = SawBirth b ∷ v.saw }

-- the view after a load of ROUND
abbrev pub seen_round : Sight → ℕ → Sight
seen_round v n = record v { read = record v.read { ready = ltb (n % 4294967296) 1048576; seen = n / 4294967296 } }

-- the view with a pin of the round q
abbrev pub pinned : Sight → ℕ → Sight
pinned v q = record v { read = record v.read { pin = q + 1; ready = false; went = []; walk = Still; places = []; seen = q } }

abbrev pub unpinned : Sight → Sight
unpinned v = record v { read = record v.read { pin = 0; went = []; walk = Still; places = [] } }

-- a reader's pass may take a pin
abbrev pub MayPin : Sight → Type 0
MayPin v = (v.kind ≡ Reader) × (v.read.pin ≡ 0) × (v.read.ready ≡ true)

-- a pin is taken of the round that ROUND shows, which is one of the table's
abbrev pub pin_told : Ask → Sat → ℕ → Sat → Type 0
pin_told q m n m' = (m'.1 ≡ m.1) × (m'.0 ≡ pinned m.0 (n / 4294967296)) × (n / 4294967296 ≤ q.value)

-- a pin is taken where ROUND is as it was seen
abbrev pub exchange_told : Ask → Sat → ℕ → Sat → Type 0
exchange_told q m n m' = (m'.1 ≡ m.1) × (n ≡ q.block → (m'.0 ≡ pinned m.0 (n / 4294967296)) × (n / 4294967296 ≤ q.value)) × ((n ≡ q.block → ⊥) → m'.0 ≡ m.0)

-- a worker's walk for the name k at x may begin
abbrev pub MayWalk : Setup → Sight → ℕ → ℕ → Type 0
MayWalk s v x k = (v.kind ≡ Worker) × (HasEntry v.work.found (x, k) ⊎ HasEntry v.work.stood (x, k) ⊎ ((x < s.elements) × (k ≡ s.top x)))

-- the walk ends: the last finished round has not the name
abbrev pub ended_walk : Sight → ℕ → Sight
ended_walk v k = record v { work = record v.work { walk = Still; absent = k ∷ v.work.absent }; saw = SawEnd k ∷ v.saw }

-- the walk goes to a block's member
abbrev pub gone : Sight → ℕ → ℕ → ℕ → Bool → Sight
gone v x k b t = record v { work = record v.work { went = b ∷ v.work.went; walk = At x k b t } }

-- the walk ends at the node, or goes to its block
abbrev pub WalkTells : Sight → ℕ → ℕ → ℕ → Node → Sight → Type 0
WalkTells v x k pool l u = (((l.block ≡ 0) ⊎ ((0 < l.died) × (l.died < v.work.round))) × (u ≡ ended_walk v k)) ⊎ ((b : ℕ) × (l.block ≡ b + 1) × (b < pool)
    × ((l.died ≡ 0) ⊎ (v.work.round ≤ l.died)) × ((t : Bool) × (u ≡ gone v x k b t)))

abbrev pub walk_goes : Ask → Sat → ℕ → Sat → Type 0
walk_goes q m n m' = (m'.1 ≡ m.1) × WalkTells m.0 q.place q.mate q.value (node_of n) m'.0

-- the walk of a name that is known as bisected goes to a block
abbrev pub walk_told : Ask → Sat → ℕ → Sat → Type 0
walk_told q m n m' = (m'.1 ≡ m.1) × WalkTells m.0 q.place q.mate q.value (node_of n) m'.0
    × (HasEntry m.0.work.known q.mate → (0 < (node_of n).block) × ((node_of n).died ≡ 0))

-- a NAME word shows which member a walk has gone to
abbrev pub name_told : Ask → Sat → ℕ → Sat → Type 0
name_told q m n m' = (m' ≡ m) × ((x k : ℕ) (t : Bool) → m.0.work.walk ≡ At x k q.block t → (n ≡ k → t ≡ q.second) × (t ≡ q.second → n ≡ k))

-- the block is passed by
abbrev pub passed : Sight → ℕ → ℕ → ℕ → Bool → Sight
passed v x k b t = record v { work = record v.work { walk = Past x k b t } }

-- the name is bisected, and its children stand at the block
abbrev pub finding : Setup → Sight → ℕ → ℕ → Bool → Sight
finding s v k b t = record v {
  work = record v.work {
    walk = Still;
    found = (child_place s.elements b t false, s.child k false) ∷ (child_place s.elements b t true, s.child k true) ∷ v.work.found;
    known = k ∷ v.work.known;
  };
  saw = SawBisected k ∷ v.saw;
}

-- the place z, at which the name was found, is that of the member t of a block that the pass published
pub record MayArrive (v : Sight) (x m z k b : ℕ) (t : Bool) : Type 0 where
  pub works : v.kind ≡ Worker
  pub half : v.work.half ≡ FirstHalf
  pub lives : HasEntry v.claims (claim x m (Living b))
  pub found : HasEntry v.work.found (z, k)
  pub side : ((t ≡ false) × (z ≡ x)) ⊎ ((t ≡ true) × (m ≡ z + 1))

-- the walk goes to the block, which bisects the name
abbrev pub arrived : Setup → ℕ → ℕ → ℕ → Bool → Sight → Sight
arrived s z k b t v = finding s (gone v z k b t) k b t

-- what BORN shows in the first half
abbrev pub arriving : Setup → ℕ → ℕ → ℕ → Bool → ℕ → Sight → Sight
arriving s x k b t n v = cond (n == 0) (passed v x k b t) (finding s v k b t)

-- and the block to which the walk of such a name has gone is born
abbrev pub born_told : Setup → ℕ → ℕ → ℕ → Bool → Sat → ℕ → Sat → Type 0
born_told s x k b t m n m' = (m'.1 ≡ m.1) × (m'.0 ≡ arriving s x k b t n m.0) × (HasEntry m.0.work.known k → 0 < n)

-- a macro element's place is noted
abbrev pub topped : Setup → ℕ → Sight → Sight
topped s x v = record v { work = record v.work { found = (x, s.top x) ∷ v.work.found } }

-- a child's LINK word is filled, and no place that was found is that child's
abbrev pub child_told : Ask → Sat → ℕ → Sat → Type 0
child_told q m n m' = (m'.1 ≡ m.1) × (m'.0 ≡ noted_head m.0 q.place (node 0 0)) × ((y a : ℕ) → HasEntry m.0.work.found (y, a) → y ≡ q.place → ⊥)

-- the LINK words of a block's children, noted as empty
abbrev pub noted_children : Sight → ℕ → ℕ → Sight
noted_children v e b = noted_head (noted_head (noted_head (noted_head v (e + 4 * b + 0) (node 0 0)) (e + 4 * b + 1) (node 0 0)) (e + 4 * b + 2) (node 0 0)) (e + 4 * b + 3) (node 0 0)

-- what a seat owns may change, and nothing else
pub record SureOnly (u v : Sight) : Type 0 where
  pub kind : v.kind ≡ u.kind
  pub claims : v.claims ≡ u.claims
  pub work : v.work ≡ u.work

-- a draw changes the claims, and what was drawn
pub record DrewOnly (u v : Sight) : Type 0 where
  pub kind : v.kind ≡ u.kind
  pub found : v.work.found ≡ u.work.found
  pub known : v.work.known ≡ u.work.known
  pub round : v.work.round ≡ u.work.round

-- a reader's walk for the name k at x may begin
abbrev pub MayRead : Setup → Sight → ℕ → ℕ → ℕ → Type 0
MayRead s v x k q = (v.kind ≡ Reader) × (v.read.pin ≡ q + 1) × (HasEntry v.read.places (x, k) ⊎ ((x < s.elements) × (k ≡ s.top x)))

-- the walk ends: the name is not bisected at the pinned round
abbrev pub ended_read : Sight → ℕ → ℕ → Sight
ended_read v k q = record v { read = record v.read { walk = Still; notes = record { round = q; name = k; bisected = false } ∷ v.read.notes } }

abbrev pub gone_read : Sight → ℕ → ℕ → ℕ → Bool → ℕ → Sight
gone_read v x k b t d = record v { read = record v.read { went = b ∷ v.read.went; walk = At x k b t; back = d } }

-- the walk ends at the node, or goes to its block
abbrev pub ReadTells : Sight → ℕ → ℕ → ℕ → ℕ → Node → Sight → Type 0
ReadTells v x k q pool l u = (((l.block ≡ 0) ⊎ ((0 < l.died) × (l.died ≤ q))) × (u ≡ ended_read v k q)) ⊎ ((b : ℕ) × (l.block ≡ b + 1) × (b < pool)
    × ((l.died ≡ 0) ⊎ (q < l.died)) × ((t : Bool) × (u ≡ gone_read v x k b t l.died)))

abbrev pub read_told : Ask → Sat → ℕ → Sat → Type 0
read_told q m n m' = (m'.1 ≡ m.1) × ReadTells m.0 q.place q.mate q.block q.value (node_of n) m'.0

-- a HISTORY word besides has a retired round where it names a block, below the one by which the walk came
abbrev pub on_told : Ask → Sat → ℕ → Sat → Type 0
on_told q m n m' = (m'.1 ≡ m.1) × ReadTells m.0 q.place q.mate q.block q.value (node_of n) m'.0 × ((node_of n).block ≡ 0 ⊎ ((0 < (node_of n).died)
    × (0 < m.0.read.back → (node_of n).died < m.0.read.back)))

abbrev pub read_name_told : Ask → Sat → ℕ → Sat → Type 0
read_name_told q m n m' = (m' ≡ m) × ((x k p : ℕ) (t : Bool) → m.0.read.pin ≡ p + 1 → m.0.read.walk ≡ At x k q.block t → (n ≡ k → t ≡ q.second)
    × (t ≡ q.second → n ≡ k))

abbrev pub passed_read : Sight → ℕ → ℕ → ℕ → Bool → Sight
passed_read v x k b t = record v { read = record v.read { walk = Past x k b t } }

abbrev pub finding_read : Setup → Sight → ℕ → ℕ → Bool → ℕ → Sight
finding_read s v k b t q = record v {
  read = record v.read {
    walk = Still;
    notes = record { round = q; name = k; bisected = true } ∷ v.read.notes;
    places = (child_place s.elements b t false, s.child k false) ∷ (child_place s.elements b t true, s.child k true) ∷ v.read.places;
  };
}

-- what BORN shows at the pinned round
abbrev pub arriving_read : Setup → ℕ → ℕ → ℕ → Bool → ℕ → ℕ → Sight → Sight
arriving_read s x k b t q n v = cond (ltb 0 n && ltb n (q + 1)) (finding_read s v k b t q) (passed_read v x k b t)
