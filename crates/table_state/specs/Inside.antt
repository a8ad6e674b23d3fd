-- That what is named lies in the table, which name stands at a place, and that a view lists a claim once.
use Rattle.std.specs.Prelude.{◌≡◌, ℕ, ◌+◌, ◌<◌, ◌≤◌, Bool, List, [], ◌∷◌, ◌⊎◌}
use Rattle.table_words.specs.Claims.{Progress, Claim, claim}
use Rattle.table_words.specs.Entries.{HasEntry}
use Rattle.table_words.specs.Places.{member_of, child_place}
use Rattle.table_words.specs.Setup.{Setup, places}
use Rattle.table_state.specs.Ghosts.{Stage, Held, Life, Free, RolledBack, chained, stands}
use Rattle.table_words.specs.Words.{Node}
use Rattle.table_state.specs.Chains.{IsPlace}
use Rattle.table_state.specs.Bisections.{IsPatch}

-- blocks that are named are below the pool, and places below their number
pub record InsideRule (s : Setup) (free : ℕ) (row : ℕ → ℕ) (life : ℕ → Life) (stage : ℕ → Stage) (hand retired : List ℕ) : Type 0 where
  -- the rows below FREE are of the table, and name blocks of the pool
  pub few : free ≤ s.pool
  pub rows : (i : ℕ) → i < free → row i < s.pool
  -- a block from the pool's end on is free; so one that is in a chain or of a claim is below it
  pub blocks : (b : ℕ) → s.pool ≤ b → life b ≡ Free
  -- a place at which a block stands is one of the table, and so is the second place of a claim
  pub stand_in : (b : ℕ) (t : Bool) (x : ℕ) → stands (life b) t ≡ x + 1 → x < places s
  pub seconds : (x j y : ℕ) (p : Progress) → stage x ≡ Held j (y + 1) p → y < places s
  -- the owner's free and retired blocks are below the pool
  pub hand_in : (b : ℕ) → HasEntry hand b → b < s.pool
  pub retired_in : (b : ℕ) → HasEntry retired b → b < s.pool

-- by the NAME words the element n stands at the place x: a macro element, or a child of a member of a block that stands
abbrev pub IsLabel : Setup → (ℕ → ℕ) → (ℕ → Life) → ℕ → ℕ → Type 0
IsLabel s name life x n = ((x < s.elements) × (n ≡ s.top x))
    ⊎ ((b : ℕ) × (t c : Bool) × (y : ℕ) × (x ≡ child_place s.elements b t c) × (stands (life b) t ≡ y + 1) × (n ≡ s.child (name (member_of b t)) c))

pub record LabelRule (s : Setup) (name : ℕ → ℕ) (head history : ℕ → Node) (life : ℕ → Life) : Type 0 where
  -- the member that a LINK word leads to has the name of the element at the place, whatever rounds may be read
  pub heads : (x b : ℕ) (t : Bool) → IsPlace s.elements life x → (head x).block ≡ b + 1 → chained (life b) t ≡ x + 1
      → IsLabel s name life x (name (member_of b t))
  -- and the member that a HISTORY word leads to has the name of the word's member
  pub histories : (a c x : ℕ) (t u : Bool) → stands (life a) t ≡ x + 1 → (history (member_of a t)).block ≡ c + 1 → chained (life c) u ≡ x + 1
      → name (member_of c u) ≡ name (member_of a t)
  -- the NAME words of a block that was rolled back are a patch
  pub patch : (b x m : ℕ) → life b ≡ RolledBack x m → IsPatch s name b m

-- no two of the claims are of one place
abbrev pub ListedOnce : List Claim → Type 0
ListedOnce [] = Unit {0}
ListedOnce (c ∷ cs) = ((m : ℕ) (p : Progress) → HasEntry cs (claim c.place m p) → ⊥) × ListedOnce cs
