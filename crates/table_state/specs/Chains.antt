-- The chains of blocks. Each block in the chain of a place is a version of the place: the LINK word names the newest,
-- and the HISTORY word of a block's member the version before it.
use Rattle.std.specs.Prelude.{◌≡◌, ℕ, ◌+◌, ◌<◌, ◌≤◌, Bool, false, List, [], ◌∷◌, ◌⊎◌}
use Rattle.table_words.specs.Places.{member_of, child_place}
use Rattle.table_words.specs.Words.{Node, node}
use Rattle.table_state.specs.Ghosts.{Life, Free, Loose, Placed, RolledBack, chained, stands}

-- the block was published by the round q and not retired by it
abbrev pub Covers : (ℕ → ℕ) → (ℕ → ℕ) → ℕ → ℕ → Type 0
Covers born died q b = (0 < born b) × (born b ≤ q) × ((died b ≡ 0) ⊎ (q < died b))

-- the members, each a block and its side, lead from the word l along the chain of the place x to the block c, which covers q
abbrev pub Finds : (ℕ → Node) → (ℕ → ℕ) → (ℕ → ℕ) → (ℕ → Life) → ℕ → ℕ → ℕ → Node → List (ℕ × Bool) → Type 0
Finds history born died life q x c l [] = ⊥
Finds history born died life q x c l (t ∷ ts) = (l.block ≡ t.0 + 1) × (stands (life t.0) t.1 ≡ x + 1)
    × (((t.0 ≡ c) × Covers born died q c) ⊎ Finds history born died life q x c (history (member_of t.0 t.1)) ts)

-- a walk at q from the word l along the chain of x comes to the block c, which covers q
abbrev pub Reaches : (ℕ → Node) → (ℕ → ℕ) → (ℕ → ℕ) → (ℕ → Life) → ℕ → ℕ → ℕ → Node → Type 0
Reaches history born died life q x c l = (ts : List (ℕ × Bool)) × Finds history born died life q x c l ts

-- the place of a macro element, or of a child of a block that stands somewhere
abbrev pub IsPlace : ℕ → (ℕ → Life) → ℕ → Type 0
IsPlace e life x = (x < e) ⊎ ((b : ℕ) × (s c : Bool) × (y : ℕ) × (x ≡ child_place e b s c) × (stands (life b) false ≡ y + 1))

-- a LINK word names nothing, or a block in the chain of its place; where it has a retired
-- round it is the block's, and else the block is not retired, or in the current round
abbrev pub IsHead : ℕ → (ℕ → ℕ) → (ℕ → Life) → ℕ → Node → Type 0
IsHead round died life x l = (l ≡ node 0 0)
    ⊎ ((b : ℕ) × (s : Bool) × (l.block ≡ b + 1) × (chained (life b) s ≡ x + 1) × (0 < l.died → l.died ≡ died b)
    × (l.died ≡ 0 → (died b ≡ 0) ⊎ (died b ≡ round + 1)))

-- a HISTORY word of a block that was born at n names no older version, or a block in the chain of the same place that was retired in a finished round before n
abbrev pub IsOlder : ℕ → (ℕ → ℕ) → (ℕ → Life) → ℕ → ℕ → Node → Type 0
IsOlder round died life x n l = (l ≡ node 0 0)
    ⊎ ((c : ℕ) × (t : Bool) × (l ≡ node (c + 1) (died c)) × (chained (life c) t ≡ x + 1) × (0 < died c) × (0 < n → died c < n) × (died c ≤ round))

-- a block that is free or was drawn is not born; or it is free, and was retired in a finished round and not swept since
abbrev pub IsUnborn : ℕ → ℕ → ℕ → Life → Type 0
IsUnborn round born died Free = (born ≡ 0) ⊎ ((born < died) × (died ≤ round))
IsUnborn round born died (Loose u) = born ≡ 0
IsUnborn round born died (Placed x m) = Unit {0}
IsUnborn round born died (RolledBack x m) = Unit {0}

pub record ChainsRule (e round : ℕ) (head history : ℕ → Node) (born died : ℕ → ℕ) (life : ℕ → Life) : Type 0 where
  pub heads : (x : ℕ) → IsPlace e life x → IsHead round died life x (head x)
  pub histories : (b : ℕ) (s : Bool) (x : ℕ) → stands (life b) s ≡ x + 1 → IsOlder round died life x (born b) (history (member_of b s))
  pub borns : (b : ℕ) → born b ≤ round + 1
  -- a block that is retired was born before
  pub dieds : (b x m : ℕ) → life b ≡ Placed x m → 0 < died b → (0 < born b) × (born b < died b) × (died b ≤ round + 1)
  pub rolled_back : (b x m : ℕ) → life b ≡ RolledBack x m → born b ≡ 0
  pub unborn : (b : ℕ) → IsUnborn round (born b) (died b) (life b)
  -- the members of a block stand at two places
  pub sides : (b : ℕ) (t u : Bool) (x : ℕ) → stands (life b) t ≡ x + 1 → stands (life b) u ≡ x + 1 → t ≡ u
