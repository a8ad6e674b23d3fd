-- The owner's steps at the ends of a round: what each asks of its view, and the view after it.
use Rattle.std.specs.Prelude.{◌≡◌, ℕ, ◌+◌, ◌%◌, ◌<◌, ◌≤◌, Bool, true, false, List, [], ◌∷◌, ◌++◌, cond, eqb, ◌⊎◌}
use Rattle.table_words.specs.Claims.{Progress, Claimed, Failed, Drawn, Half, Whole, Living, claim, moved_on, ended}
use Rattle.table_words.specs.Entries.{HasEntry, Noted}
use Rattle.table_words.specs.Places.{member_of}
use Rattle.table_words.specs.Setup.{Setup}
use Rattle.table_words.specs.Views.{Resting, FirstHalf, SecondHalf, Closing, RollingBack, Owner}
use Rattle.table_words.specs.Words.{Node, node, node_of}
use Rattle.table_state.specs.Fresh.{idle}
use Rattle.table_state.specs.Ghosts.{Placed, chained, stands}
use Rattle.table_state.specs.Lists.{IsListed}
use Rattle.mesh_table.specs.Sights.{Sight}
use Rattle.mesh_table.specs.Holds.{Sat}
use Rattle.mesh_table.specs.Told.{noted_head, noted_died}

-- The phases

-- the second half is planned: each name that the round needs is known as bisected, and each claim has its living block
pub record MayPlan (v : Sight) : Type 0 where
  pub rules : v.kind ≡ Owner
  pub needs : (i : ℕ) → HasEntry v.ruling.plan.needs i → HasEntry v.work.known i
  pub half : v.ruling.phase ≡ FirstHalf
  pub home : v.ruling.workers ≡ 0
  pub living : (x m : ℕ) (p : Progress) → HasEntry v.claims (claim x m p) → (b : ℕ) × (p ≡ Living b)

abbrev pub planned : Sight → List ℕ → Sight
planned v retire = record v { work = idle; ruling = record v.ruling { phase = SecondHalf; plan = record v.ruling.plan { retire = retire } } }

-- the round is closed: each name of the retire list is known as not bisected
pub record MayClose (s : Setup) (v : Sight) : Type 0 where
  pub rules : v.kind ≡ Owner
  pub done : (i : ℕ) → IsListed s v.ruling.plan.retire i → HasEntry v.work.open_ i
  pub half : v.ruling.phase ≡ SecondHalf
  pub home : v.ruling.workers ≡ 0

abbrev pub closed : Sight → Sight
closed v = record v { work = idle; ruling = record v.ruling { phase = Closing; retired = v.work.retired ++ v.ruling.retired } }

-- the round is refused in its first half
pub record MayRefuse (v : Sight) : Type 0 where
  pub rules : v.kind ≡ Owner
  pub half : v.ruling.phase ≡ FirstHalf
  pub home : v.ruling.workers ≡ 0

abbrev pub refused : Sight → Sight
refused v = record v { work = idle; ruling = record v.ruling { phase = RollingBack } }

-- and is rolled back once no claim is left
pub record MayRestore (v : Sight) : Type 0 where
  pub rules : v.kind ≡ Owner
  pub back : v.ruling.phase ≡ RollingBack
  pub none : v.claims ≡ []

abbrev pub restored : Sight → Sight
restored v = record v { work = idle; ruling = record v.ruling { phase = Resting } }

-- Claims end

-- the claim with its living block, while the round is closed
pub record MayUnclaim (v : Sight) (x m b : ℕ) : Type 0 where
  pub rules : v.kind ≡ Owner
  pub closed : v.ruling.phase ≡ Closing
  pub claim_is : HasEntry v.claims (claim x m (Living b))

abbrev pub unclaimed : Sight → ℕ → ℕ → ℕ → Sight
unclaimed v x m b = record v { claims = ended v.claims x; ruling = record v.ruling { placed = (b, x, m) ∷ v.ruling.placed } }

-- a claim without a block, while the round is rolled back
pub record MayDrop (v : Sight) (x : ℕ) (l : Node) : Type 0 where
  pub rules : v.kind ≡ Owner
  pub back : v.ruling.phase ≡ RollingBack
  pub mate : ℕ
  pub claim_is : HasEntry v.claims (claim x mate Claimed) ⊎ HasEntry v.claims (claim x mate Failed)
  pub head : Noted v.owned.head x l

abbrev pub dropped : Sight → ℕ → Sight
dropped v x = record v { claims = ended v.claims x }

-- Taking back

pub record MayUnbear (v : Sight) (x b : ℕ) : Type 0 where
  pub rules : v.kind ≡ Owner
  pub back : v.ruling.phase ≡ RollingBack
  pub mate : ℕ
  pub claim_is : HasEntry v.claims (claim x mate (Living b))

abbrev pub unborn : Sight → ℕ → ℕ → Sight
unborn v x b = record v { claims = moved_on v.claims x (Whole b); owned = record v.owned { born = (b, 0) ∷ v.owned.born } }

pub record MayUnlinkSecond (v : Sight) (x y b : ℕ) (l : Node) : Type 0 where
  pub rules : v.kind ≡ Owner
  pub back : v.ruling.phase ≡ RollingBack
  pub claim_is : HasEntry v.claims (claim x (y + 1) (Whole b))
  pub old : Noted v.owned.history (member_of b true) l

abbrev pub unlinked_second : Sight → ℕ → ℕ → ℕ → Node → Sight
unlinked_second v x y b l = record v { claims = moved_on v.claims x (Half b); owned = record v.owned { head = (y, l) ∷ v.owned.head } }

pub record MayUnlinkFirst (v : Sight) (x m b : ℕ) (l : Node) : Type 0 where
  pub rules : v.kind ≡ Owner
  pub back : v.ruling.phase ≡ RollingBack
  pub progress : Progress
  pub claim_is : HasEntry v.claims (claim x m progress)
  pub far : (progress ≡ Half b) ⊎ ((progress ≡ Whole b) × (m ≡ 0))
  pub old : Noted v.owned.history (member_of b false) l

abbrev pub unlinked_first : Sight → ℕ → ℕ → ℕ → Node → Sight
unlinked_first v x m b l = record v {
  claims = ended v.claims x;
  owned = record v.owned { head = (x, l) ∷ v.owned.head };
  ruling = record v.ruling { rolled_back = b ∷ v.ruling.rolled_back; placed = (b, x, m) ∷ v.ruling.placed; seen = 0; quiet = false };
}

pub record MayBury (v : Sight) (b : ℕ) : Type 0 where
  pub rules : v.kind ≡ Owner
  pub back : v.ruling.phase ≡ RollingBack
  pub rolled_back : HasEntry v.ruling.rolled_back b

-- a block that was drawn and not linked
pub record MayUndraw (v : Sight) (x b : ℕ) (l : Node) : Type 0 where
  pub rules : v.kind ≡ Owner
  pub back : v.ruling.phase ≡ RollingBack
  pub mate : ℕ
  pub claim_is : HasEntry v.claims (claim x mate (Drawn b))
  pub head : Noted v.owned.head x l

abbrev pub undrawn : Sight → ℕ → ℕ → Sight
undrawn v x b = record v { claims = ended v.claims x; ruling = record v.ruling { hand = b ∷ v.ruling.hand } }

-- Loads of the owner

abbrev pub noted_born : Sight → ℕ → ℕ → Sight
noted_born v b n = record v { owned = record v.owned { born = (b, n) ∷ v.owned.born } }

abbrev pub noted_row : Sight → ℕ → ℕ → Sight
noted_row v i b = record v { owned = record v.owned { row = (i, b) ∷ v.owned.row } }

-- the owner's load of a LINK word: what was noted of it before is found again
abbrev pub head_told : ℕ → Sat → ℕ → Sat → Type 0
head_told x m n m' = (m'.1 ≡ m.1) × (m'.0 ≡ noted_head m.0 x (node_of n)) × (m.0.kind ≡ Owner → m.0.ruling.workers ≡ 0 → (l : Node)
    → Noted m.0.owned.head x l → node_of n ≡ l)

-- of DIED: a block that the owner knows as retired in the current round was so, and was not rolled back; and what was noted of it before is found again
abbrev pub died_told : ℕ → Sat → ℕ → Sat → Type 0
died_told b m n m' = (m'.1 ≡ m.1) × (m'.0 ≡ noted_died m.0 b n) × (m.0.kind ≡ Owner → HasEntry m.0.ruling.retired b → (n ≡ m.0.ruling.finished + 1)
    × (HasEntry m.0.ruling.rolled_back b → ⊥))

abbrev pub counted_cursor : Sight → ℕ → Sight
counted_cursor v n = record v { ruling = record v.ruling { cursor = n + 1 } }

abbrev pub counted_free : Sight → ℕ → Sight
counted_free v n = record v { ruling = record v.ruling { free = n + 1 } }

-- RELEASED of a round that was left: the round is drained where it shows as many pins as were taken
abbrev pub clearing : ℕ → ℕ → ℕ → Sight → Sight
clearing q k n v = cond (eqb n k) (record v { ruling = record v.ruling { drained = q ∷ v.ruling.drained } }) v

abbrev pub seen_released : Sight → ℕ → Sight
seen_released v n = record v { ruling = record v.ruling { seen = n + 1 } }

-- ROUND after it: with as many pins the last finished round is quiet
abbrev pub quieting : ℕ → Sight → Sight
quieting n v = cond (eqb v.ruling.seen (n % 4294967296 + 1)) (record v { ruling = record v.ruling { quiet = true } }) v

-- Cuts, and free blocks

-- no pin is out of a round before e
abbrev pub DrainedTo : Sight → ℕ → Type 0
DrainedTo v e = (v.ruling.early ≡ 0) ⊎ ((q : ℕ) → q < e → HasEntry v.ruling.drained q)

pub record MayCutLink (v : Sight) (x b : ℕ) (t : Bool) (l : Node) : Type 0 where
  pub rules : v.kind ≡ Owner
  pub rests : v.ruling.phase ≡ Resting
  pub died : ℕ
  pub first : ℕ
  pub second : ℕ
  pub head : Noted v.owned.head x (node (b + 1) died)
  pub dead : Noted v.owned.died b died
  pub next : Noted v.owned.history (member_of b t) l
  pub some_ : 0 < died
  pub drained : DrainedTo v died
  pub placed : HasEntry v.ruling.placed (b, first, second)
  pub fair : HasEntry v.ruling.rolled_back b → ⊥
  pub at : chained (Placed first second) t ≡ x + 1

pub record MayCutHistory (v : Sight) (a : ℕ) (u : Bool) (x b : ℕ) (t : Bool) (l : Node) : Type 0 where
  pub rules : v.kind ≡ Owner
  pub rests : v.ruling.phase ≡ Resting
  pub died : ℕ
  pub first : ℕ
  pub second : ℕ
  pub from_first : ℕ
  pub from_second : ℕ
  pub word : Noted v.owned.history (member_of a u) (node (b + 1) died)
  pub dead : Noted v.owned.died b died
  pub next : Noted v.owned.history (member_of b t) l
  pub some_ : 0 < died
  pub drained : DrainedTo v died
  pub from : HasEntry v.ruling.placed (a, from_first, from_second)
  pub stood : stands (Placed from_first from_second) u ≡ x + 1
  pub placed : HasEntry v.ruling.placed (b, first, second)
  pub fair : HasEntry v.ruling.rolled_back b → ⊥
  pub at : chained (Placed first second) t ≡ x + 1

-- whether the number is in the list
abbrev pub listed : List ℕ → ℕ → Bool
listed [] c = false
listed (b ∷ bs) c = cond (eqb b c) true (listed bs c)

-- the entries of the list that are of none of these blocks
abbrev pub others : {A : Type 0} → (A → ℕ) → List ℕ → List A → List A
others of bs [] = []
others of bs (a ∷ xs) = cond (listed bs (of a)) (others of bs xs) (a ∷ others of bs xs)

abbrev pub CleanHeadIn : Sight → (ℕ → Bool) → ℕ → Type 0
CleanHeadIn v gone x = (l : Node) × Noted v.owned.head x l × ((c : ℕ) → l.block ≡ c + 1 → gone c ≡ false)

abbrev pub CleanHistoryIn : Sight → (ℕ → Bool) → ℕ → Bool → Type 0
CleanHistoryIn v gone b t = (l : Node) × Noted v.owned.history (member_of b t) l × ((c : ℕ) → l.block ≡ c + 1 → gone c ≡ false)

abbrev pub CleanPlaceIn : Sight → (ℕ → Bool) → ℕ → Type 0
CleanPlaceIn v gone x = CleanHeadIn v gone x × ((b y m : ℕ) (t : Bool) → HasEntry v.ruling.placed (b, y, m) → stands (Placed y m) t ≡ x + 1
    → (gone b ≡ true) ⊎ CleanHistoryIn v gone b t)

-- a block can be freed that was rolled back, and to which no pass has gone; or that was retired, where its
-- rounds are drained and the words of its places were swept
abbrev pub CanGo : Sight → (ℕ → Bool) → ℕ → Type 0
CanGo v gone c = (HasEntry v.ruling.rolled_back c × DrainedTo v v.ruling.finished × (v.ruling.quiet ≡ true)) ⊎ ((e y m : ℕ) × Noted v.owned.died c e × (0 < e)
    × (e ≤ v.ruling.finished) × DrainedTo v e × HasEntry v.ruling.placed (c, y, m)
    × ((t : Bool) (x : ℕ) → stands (Placed y m) t ≡ x + 1 → CleanPlaceIn v gone x))

pub record MayFree (v : Sight) (blocks : List ℕ) : Type 0 where
  pub rules : v.kind ≡ Owner
  pub rests : v.ruling.phase ≡ Resting
  pub each : (c : ℕ) → HasEntry blocks c → CanGo v (listed blocks) c

abbrev pub freed : Sight → List ℕ → Sight
freed v blocks = record v {
  ruling = record v.ruling {
    hand = blocks ++ v.ruling.hand;
    rolled_back = others (λ c. c) blocks v.ruling.rolled_back;
    kept = others (λ c. c) blocks v.ruling.kept;
    placed = others (λ (a : ℕ × ℕ × ℕ). a.0) blocks v.ruling.placed;
  };
}

-- Free rows

pub record MayZero (v : Sight) (b : ℕ) : Type 0 where
  pub rules : v.kind ≡ Owner
  pub rests : v.ruling.phase ≡ Resting
  pub held : HasEntry v.ruling.hand b

pub record MayStop (v : Sight) (drawn rows : ℕ) : Type 0 where
  pub rules : v.kind ≡ Owner
  pub rests : v.ruling.phase ≡ Resting
  pub free : v.ruling.free ≡ rows + 1
  pub cursor : v.ruling.cursor ≡ drawn + 1
  pub none : v.ruling.high ≤ v.ruling.low

abbrev pub stopped : Sight → ℕ → ℕ → Sight
stopped v drawn rows = record v { ruling = record v.ruling { free = 1; low = drawn; high = rows } }

pub record MayRewind (v : Sight) : Type 0 where
  pub rules : v.kind ≡ Owner
  pub rests : v.ruling.phase ≡ Resting
  pub shut : v.ruling.free ≡ 1

abbrev pub rewound : Sight → Sight
rewound v = record v { ruling = record v.ruling { cursor = 1 } }

pub record MayLay (v : Sight) (i : ℕ) : Type 0 where
  pub rules : v.kind ≡ Owner
  pub rests : v.ruling.phase ≡ Resting
  pub shut : v.ruling.free ≡ 1
  pub other : (i < v.ruling.low) ⊎ (v.ruling.high ≤ i)

-- the row is below k and not of the stock, and names the block by what the owner owns
abbrev pub IsLaidIn : Sight → ℕ → ℕ → ℕ → Type 0
IsLaidIn v k i b = (i < k) × ((i < v.ruling.low) ⊎ (v.ruling.high ≤ i)) × Noted v.owned.row i b

-- all of the hand is laid
pub record MayOpen (v : Sight) (k : ℕ) : Type 0 where
  pub rules : v.kind ≡ Owner
  pub rests : v.ruling.phase ≡ Resting
  pub shut : v.ruling.free ≡ 1
  pub begun : v.ruling.cursor ≡ 1
  pub below : v.ruling.low < v.ruling.high → v.ruling.high ≤ k
  pub rows : (i : ℕ) → i < k → ((v.ruling.low ≤ i) × (i < v.ruling.high)) ⊎ ((b : ℕ) × IsLaidIn v k i b × HasEntry v.ruling.hand b × Noted v.owned.born b 0)
  pub once : (i j b : ℕ) → IsLaidIn v k i b → IsLaidIn v k j b → i ≡ j
  pub all : (b : ℕ) → HasEntry v.ruling.hand b → (i : ℕ) × IsLaidIn v k i b

abbrev pub opened : Sight → ℕ → Sight
opened v k = record v { ruling = record v.ruling { hand = []; free = k + 1; low = 0; high = 0 } }

-- the block of the last row of the stock is taken into the hand
pub record MayTake (v : Sight) (i : ℕ) : Type 0 where
  pub rules : v.kind ≡ Owner
  pub home : v.ruling.workers ≡ 0
  pub low : v.ruling.low ≤ i
  pub last : v.ruling.high ≡ i + 1

abbrev pub taken : Sight → ℕ → ℕ → Sight
taken v i b = record v { owned = record v.owned { row = (i, b) ∷ v.owned.row }; ruling = record v.ruling { hand = b ∷ v.ruling.hand; high = i } }

-- and it was in the hand of none before, and is one of the pool's
abbrev pub taken_told : ℕ → ℕ → Sat → ℕ → Sat → Type 0
taken_told i pool m n m' = (m'.1 ≡ m.1) × (m'.0 ≡ taken m.0 i n) × (HasEntry m.0.ruling.hand n → ⊥) × (n < pool)
