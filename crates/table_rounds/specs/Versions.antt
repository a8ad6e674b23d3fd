-- The versions that stand at a place before a round, and the words that lead to them.
use Rattle.std.specs.Prelude.{◌≡◌, ℕ, ◌+◌, ◌<◌, ◌≤◌, Bool, ◌⊎◌}
use Rattle.table_words.specs.Entries.{HasEntry, Noted}
use Rattle.table_words.specs.Places.{member_of, child_place}
use Rattle.table_words.specs.Words.{Node, node, node_of}
use Rattle.table_state.specs.Ghosts.{Placed, stands}
use Rattle.mesh_table.specs.Holds.{Sat}
use Rattle.mesh_table.specs.Sights.{Sight}
use Rattle.table_rounds.specs.Patches.{StandsAt}

-- the place is a macro element's, or that of a child of a block that the owner noted with its places
abbrev pub IsRooted : ℕ → Sight → ℕ → Type 0
IsRooted e v x = (x < e) ⊎ ((p z i : ℕ) × (s c : Bool) × (x ≡ child_place e p s c) × HasEntry v.ruling.placed (p, z, i))

-- what the owner noted of a word it still notes so, and more; nothing else changed
pub record NotesMore (u v : Sight) : Type 0 where
  pub same : v ≡ record u { owned = v.owned }
  pub heads : (x : ℕ) (l : Node) → Noted u.owned.head x l → Noted v.owned.head x l
  pub histories : (h : ℕ) (l : Node) → Noted u.owned.history h l → Noted v.owned.history h l
  pub dieds : (b n : ℕ) → Noted u.owned.died b n → Noted v.owned.died b n

-- a word leads to no block; or to a block that stands at the place and was not rolled back, with the block's DIED as its
-- retired round: one that has a retired round is kept, and another is not
abbrev pub LeadsTo : ℕ → Sight → ℕ → Node → Type 0
LeadsTo pool v x l = (l ≡ node 0 0)
    ⊎ ((b : ℕ) × (l.block ≡ b + 1) × (b < pool) × StandsAt v b x × (HasEntry v.ruling.rolled_back b → ⊥) × Noted v.owned.died b l.died
    × (0 < l.died → HasEntry v.ruling.kept b × (l.died ≤ v.ruling.finished)) × (l.died ≡ 0 → HasEntry v.ruling.kept b → ⊥))

-- each block that the owner noted at the place is kept, or was rolled back, or is the one that the word names
abbrev pub NamesLiving : Sight → ℕ → Node → Type 0
NamesLiving v x l = (b y m : ℕ) (t : Bool) → HasEntry v.ruling.placed (b, y, m) → stands (Placed y m) t ≡ x + 1
    → HasEntry v.ruling.kept b ⊎ HasEntry v.ruling.rolled_back b ⊎ ((l.block ≡ b + 1) × (l.died ≡ 0))

-- the members of a noted block stand at two places
abbrev pub TwoPlaces : Sight → Type 0
TwoPlaces v = (b y m x : ℕ) (t u : Bool) → HasEntry v.ruling.placed (b, y, m) → stands (Placed y m) t ≡ x + 1 → stands (Placed y m) u ≡ x + 1 → t ≡ u

-- a LINK word before a round
abbrev pub version_told : ℕ → ℕ → Sat → ℕ → Sat → Type 0
version_told pool x m n m' = (m'.1 ≡ m.1) × NotesMore m.0 m'.0 × Noted m'.0.owned.head x (node_of n) × LeadsTo pool m'.0 x (node_of n)
    × NamesLiving m'.0 x (node_of n) × TwoPlaces m'.0

-- the retired rounds fall along a chain: that of the word behind the block a is below a's
abbrev pub Falls : Sight → ℕ → ℕ → Type 0
Falls v a e = (HasEntry v.ruling.rolled_back a → ⊥) → (d : ℕ) → Noted v.owned.died a d → 0 < d → e < d

-- the HISTORY word of a block that stands at the place x; what it names was retired
abbrev pub older_told : ℕ → ℕ → Bool → ℕ → Sat → ℕ → Sat → Type 0
older_told pool a t x m n m' = (m'.1 ≡ m.1) × NotesMore m.0 m'.0 × Noted m'.0.owned.history (member_of a t) (node_of n) × LeadsTo pool m'.0 x (node_of n)
    × ((node_of n ≡ node 0 0) ⊎ (0 < (node_of n).died)) × Falls m.0 a (node_of n).died

-- DIED of a block: that of a kept one is of a finished round
abbrev pub last_told : ℕ → Sat → ℕ → Sat → Type 0
last_told b m n m' = (m'.1 ≡ m.1) × NotesMore m.0 m'.0 × Noted m'.0.owned.died b n × (HasEntry m.0.ruling.kept b → (0 < n) × (n ≤ m.0.ruling.finished))
