-- What the rule says of where things lie: blocks and places that are named are of the table, and each member of a block that stands has the name of its place.
use Rattle.std.specs.Prelude.{◌≡◌, ℕ, ◌+◌, ◌<◌, ◌≤◌, Bool}
use Rattle.table_words.specs.Claims.{Progress, claim}
use Rattle.table_words.specs.Entries.{HasEntry}
use Rattle.table_words.specs.Places.{member_of}
use Rattle.table_words.specs.Setup.{places}
use Rattle.table_words.specs.Views.{At}
use Rattle.table_state.specs.Ghosts.{chained, stands}
use Rattle.table_state.specs.Chains.{IsPlace}
use Rattle.table_state.specs.Claims.{block_of}
use Rattle.table_state.specs.Bisections.{IsPlaceOf}
use Rattle.table_state.specs.Inside.{IsLabel, ListedOnce}
use Rattle.table_state.specs.Laws.{Always, AtRounds}

-- a block that a row below FREE, a chain word or a claim names is below the pool, and so is one that stands
abbrev pub BlocksInPool : Type 0
BlocksInPool = Always (λ s w n v g. (w.free ≤ s.pool) × ((i : ℕ) → i < w.free → w.row i < s.pool)
    × ((b x : ℕ) (t : Bool) → stands (g.life b) t ≡ x + 1 → b < s.pool)
    × ((x b : ℕ) → IsPlace s.elements g.life x → (w.head x).block ≡ b + 1 → b < s.pool)
    × ((a x b : ℕ) (t : Bool) → stands (g.life a) t ≡ x + 1 → (w.history (member_of a t)).block ≡ b + 1 → b < s.pool)
    × ((j x m b : ℕ) (p : Progress) → HasEntry (v.claims j) (claim x m p) → block_of p ≡ b + 1 → b < s.pool))

-- and so is one that a view names: of a draw, a walk, a finding, or among the owner's
abbrev pub BlocksViewed : Type 0
BlocksViewed = Always (λ s w n v g. (j b : ℕ) → ((i : ℕ) → HasEntry (v.work j).drawn (i, b + 1) → b < s.pool) × (HasEntry (v.work j).went b → b < s.pool)
    × ((k : ℕ) → HasEntry (v.work j).had (b, k) → b < s.pool) × ((k : ℕ) → HasEntry (v.work j).given (b, k) → b < s.pool)
    × (HasEntry (v.work j).retired b → b < s.pool) × ((q : ℕ) → (v.read j).pin ≡ q + 1 → HasEntry (v.read j).went b → b < s.pool)
    × (HasEntry v.ruling.hand b → b < s.pool) × (HasEntry v.ruling.retired b → b < s.pool) × (HasEntry v.ruling.rolled_back b → b < s.pool)
    × ((x m : ℕ) → HasEntry v.ruling.placed (b, x, m) → b < s.pool))

-- a place at which a block stands, of which a claim is, or which a view names is one of the table
abbrev pub PlacesInTable : Type 0
PlacesInTable = Always (λ s w n v g. ((b x : ℕ) (t : Bool) → stands (g.life b) t ≡ x + 1 → x < places s)
    × ((j x m : ℕ) (p : Progress) → HasEntry (v.claims j) (claim x m p) → (x < places s) × ((y : ℕ) → m ≡ y + 1 → y < places s))
    × ((j x k : ℕ) → (HasEntry (v.work j).found (x, k) → x < places s) × (HasEntry (v.work j).stood (x, k) → x < places s)
    × ((q : ℕ) → (v.read j).pin ≡ q + 1 → HasEntry (v.read j).places (x, k) → x < places s)))

-- the members along a chain have the name of the element at its place: the one to which a LINK
-- word leads, and the one to which a HISTORY word leads on; and a place has one name
abbrev pub ChainsNamed : Type 0
ChainsNamed = Always (λ s w n v g. ((x b : ℕ) (t : Bool) → IsPlace s.elements g.life x → (w.head x).block ≡ b + 1 → chained (g.life b) t ≡ x + 1
    → IsLabel s w.name g.life x (w.name (member_of b t)))
    × ((a c x : ℕ) (t u : Bool) → stands (g.life a) t ≡ x + 1 → (w.history (member_of a t)).block ≡ c + 1 → chained (g.life c) u ≡ x + 1
    → w.name (member_of c u) ≡ w.name (member_of a t))
    × ((x k i : ℕ) → IsLabel s w.name g.life x k → IsLabel s w.name g.life x i → k ≡ i))

-- at a round that may be read an element has the name of its place
abbrev pub ElementsNamed : Type 0
ElementsNamed = AtRounds (λ s w g q who. (x k : ℕ) → IsPlaceOf s w.name who x k → IsLabel s w.name g.life x k)

-- the NAME words of a block to which a pass has gone on its walk for an element show which member stands at the element's place
abbrev pub WalkSides : Type 0
WalkSides = Always (λ s w n v g. (j x k b : ℕ) (t : Bool)
    → ((v.work j).walk ≡ At x k b t → (u : Bool) → (w.name (member_of b u) ≡ k → u ≡ t) × (u ≡ t → w.name (member_of b u) ≡ k))
    × ((q : ℕ) → (v.read j).pin ≡ q + 1 → (v.read j).walk ≡ At x k b t → (u : Bool) → (w.name (member_of b u) ≡ k → u ≡ t)
    × (u ≡ t → w.name (member_of b u) ≡ k)))

-- a view lists a claim once
abbrev pub ClaimsListedOnce : Type 0
ClaimsListedOnce = Always (λ s w n v g. (j : ℕ) → ListedOnce (v.claims j))
