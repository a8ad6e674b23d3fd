-- Reading the words at a round: which names are bisected, by LINK, HISTORY, BORN, DIED and NAME words alone.
use Rattle.std.specs.Prelude.{◌≡◌, ℕ, ◌+◌, ◌<◌, ◌≤◌, Bool, List, [], ◌∷◌, ◌⊎◌, ◌↔◌}
use Rattle.mesh_names.specs.Names.{Name, depth}
use Rattle.mesh_names.specs.Triangles.{Shape}
use Rattle.mesh_names.specs.Forests.{Names, Has, IsForest, Conforms}
use Rattle.mesh_names.specs.Partners.{Across, Tells}
use Rattle.table_words.specs.declared.layout.Layout.{Layout}
use Rattle.table_words.specs.Claims.{Drawn, claim}
use Rattle.table_words.specs.Entries.{HasEntry, EntryAt}
use Rattle.table_words.specs.NameWords.{name_code}
use Rattle.table_words.specs.Places.{member_of, child_place}
use Rattle.table_words.specs.Setup.{setup_of}
use Rattle.table_words.specs.Views.{FirstHalf, Closing, Views}
use Rattle.table_words.specs.Words.{Node, Words}
use Rattle.table_state.specs.Owner.{InRows}
use Rattle.table_state.specs.Bisections.{IsKept, MayRead}
use Rattle.mesh_names.specs.LeastForest.{IsLeast}
use Rattle.table_reading.specs.RoundForests.{AreCodes}
use Rattle.table_state.specs.Lists.{IsListed}
use Rattle.table_state.specs.Rule.{Lawful}

-- a reader at the round q goes to the block b that the word l names only where the word's retired round is 0 or above q
abbrev pub GoesTo : ℕ → Node → ℕ → Type 0
GoesTo q l b = (l.block ≡ b + 1) × ((l.died ≡ 0) ⊎ (q < l.died))

-- from the word l the walk of the element named n goes at q to the block b; it has passed by
-- the listed blocks, which have BORN 0 or above q, each by its HISTORY word of n
abbrev pub WalksTo : (ℕ → Node) → (ℕ → ℕ) → (ℕ → ℕ) → ℕ → ℕ → ℕ → List ℕ → Node → Type 0
WalksTo history born name q n b [] l = GoesTo q l b
WalksTo history born name q n b (c ∷ cs) l = GoesTo q l c × ((born c ≡ 0) ⊎ (q < born c))
    × ((t : Bool) × (name (member_of c t) ≡ n) × WalksTo history born name q n b cs (history (member_of c t)))

-- the walk of the element n from its place x goes at q to the block b
abbrev pub GoesFrom : Words → ℕ → ℕ → ℕ → ℕ → Type 0
GoesFrom w q x n b = (passed : List ℕ) × WalksTo w.history w.born w.name q n b passed (w.head x)

-- the block b is the first on the walk with 0 < BORN <= q, and has DIED 0 or above q
abbrev pub Bisects : Words → ℕ → ℕ → ℕ → ℕ → Type 0
Bisects w q x n b = GoesFrom w q x n b × (0 < w.born b) × (w.born b ≤ q) × ((w.died b ≡ 0) ⊎ (q < w.died b))

-- the element of the macro element `root` and the letters, the last one first, stands at the place x at q: a
-- macro element at its own place, and a child at its place in the block that bisects its parent
abbrev pub StandsAt : Words → ℕ → ℕ → ℕ → List Bool → ℕ → Type 0
StandsAt w e q root [] x = (root < e) × (x ≡ root)
StandsAt w e q root (c ∷ u) x = (y : ℕ) × (b : ℕ) × (t : Bool) × StandsAt w e q root u y × Bisects w q y (name_code (root, u)) b
    × (w.name (member_of b t) ≡ name_code (root, u)) × (x ≡ child_place e b t c)

-- Read: the name is an element at q, and a block bisects it
abbrev pub IsRead : Words → ℕ → ℕ → Name → Type 0
IsRead w e q n = (x : ℕ) × (b : ℕ) × StandsAt w e q n.0 n.1 x × Bisects w q x (name_code n) b

-- Reach: the walk of an element at q goes to the block, be it to pass it by
abbrev pub IsReached : Words → ℕ → ℕ → ℕ → Type 0
IsReached w e q b = (n : Name) × (x : ℕ) × StandsAt w e q n.0 n.1 x × GoesFrom w q x (name_code n) b

-- so it is of each lawful state of a table over a mesh
abbrev pub OverTables : (Shape → ℕ → Words → Views → Type 0) → Type 0
OverTables P = (mesh : Shape) (across : Across) (l : Layout) (passes : ℕ) → Tells mesh across → (w : Words) (n : ℕ) (v : Views)
    → Lawful (setup_of mesh across l passes) w n v → P mesh l.elements w v

-- the law that at each round that may be read the words say what the rule says: a block bisects a name by the words
-- exactly where it does by `who`; so of a finished round that may be read the words give the forest of the history
abbrev pub WordsRead : Type 0
WordsRead = (mesh : Shape) (across : Across) (l : Layout) (passes : ℕ) → Tells mesh across
    → (w : Words) (n : ℕ) (v : Views) (lawful : Lawful (setup_of mesh across l passes) w n v) → (q : ℕ) → MayRead w.round v.ruling.phase v.read q
    → (name : Name) (b : ℕ)
    → ((depth name ≤ 24) × (lawful.0.who q (name_code name) ≡ b + 1)) ↔ ((x : ℕ) × StandsAt w l.elements q name.0 name.1 x × Bisects w q x (name_code name) b)

-- the law that of the last finished round, and of each of which a pin is out, the words read the history's forest
abbrev pub ReadsHistory : Type 0
ReadsHistory = OverTables (λ mesh e w v. (q : ℕ) → IsKept w.round v.read q → (names : List ℕ) → EntryAt v.ruling.history q names → (n : Name) → IsRead w e q n
    ↔ ((depth n ≤ 24) × HasEntry names (name_code n)))

-- the law that at each round that may be read the names read from the words are a conforming forest
abbrev pub ReadsForest : Type 0
ReadsForest = OverTables (λ mesh e w v. (q : ℕ) → MayRead w.round v.ruling.phase v.read q → (members : Names) × ((n : Name) → Has members n ↔ IsRead w e q n)
    × IsForest mesh members × Conforms mesh members)

-- the law that in the first half, once the names that the round needs are read, the names read at
-- the current round are the least forest that holds these and the last finished round's
abbrev pub LeastRead : Type 0
LeastRead = OverTables (λ mesh e w v. v.ruling.phase ≡ FirstHalf
    → ((n : Name) → depth n ≤ 24 → HasEntry v.ruling.plan.needs (name_code n) → IsRead w e (w.round + 1) n)
    → (old needs new : Names) → ((n : Name) → Has old n ↔ IsRead w e w.round n) → AreCodes needs (HasEntry v.ruling.plan.needs)
    → ((n : Name) → Has new n ↔ IsRead w e (w.round + 1) n) → IsLeast mesh old needs new)

-- the law that while the round is closed the names read at the current round are the target's, but for the patches of the retire list
abbrev pub ReadsClosing : Type 0
ReadsClosing = (mesh : Shape) (across : Across) (l : Layout) (passes : ℕ) → Tells mesh across → (w : Words) (n : ℕ) (v : Views)
    → Lawful (setup_of mesh across l passes) w n v → v.ruling.phase ≡ Closing
    → (name : Name) → IsRead w l.elements (w.round + 1) name
    ↔ ((depth name ≤ 24) × HasEntry v.ruling.plan.target (name_code name)
    × (IsListed (setup_of mesh across l passes) v.ruling.plan.retire (name_code name) → ⊥))

-- the law that a block to which a walk goes at a round that may be read is in no free row, not free in the owner's hand or
-- stock, and of no claim that may fill its words; and its last round is above the round, where this is a finished one
abbrev pub ReachedStays : Type 0
ReachedStays = OverTables (λ mesh e w v. (q b : ℕ) → MayRead w.round v.ruling.phase v.read q → IsReached w e q b
    → ((i : ℕ) → w.cursor ≤ i → i < w.free → w.row i ≡ b → ⊥) × (HasEntry v.ruling.hand b ⊎ InRows v.ruling.low v.ruling.high w.row b → ⊥)
    × ((j x m : ℕ) → HasEntry (v.claims j) (claim x m (Drawn b)) → ⊥) × (q ≤ w.round → (w.died b ≡ 0) ⊎ (q < w.died b)))
