-- Which names are bisected at the rounds that may be read.
use Rattle.std.specs.Prelude.{◌≡◌, ℕ, ◌+◌, ◌<◌, ◌≤◌, Bool, true, false, ◌⊎◌}
use Rattle.table_words.specs.Places.{member_of, child_place}
use Rattle.table_words.specs.Setup.{Setup}
use Rattle.table_words.specs.Views.{Resting, SecondHalf, Closing, RollingBack, Read, Phase, Precedes}
use Rattle.table_words.specs.Words.{Node}
use Rattle.table_state.specs.Ghosts.{Life, Placed, chained}
use Rattle.table_state.specs.Chains.{Covers, Reaches}

-- the element n stands at the place x, where `who` says which blocks bisect names: it is a macro element, or a child of a member of a block that bisects it
abbrev pub IsPlaceOf : Setup → (ℕ → ℕ) → (ℕ → ℕ) → ℕ → ℕ → Type 0
IsPlaceOf s name who x n = ((x < s.elements) × (n ≡ s.top x))
    ⊎ ((b : ℕ) × (t c : Bool) × (x ≡ child_place s.elements b t c) × (who (name (member_of b t)) ≡ b + 1) × (n ≡ s.child (name (member_of b t)) c))

-- the words have what `who` says of the round q
pub record Fits (s : Setup) (name : ℕ → ℕ) (head history : ℕ → Node) (born died : ℕ → ℕ) (life : ℕ → Life) (who : ℕ → ℕ) (q : ℕ) : Type 0 where
  -- a name's block is found from the name's place
  pub found : (n b : ℕ) → who n ≡ b + 1 → (t : Bool) × (x : ℕ) × (name (member_of b t) ≡ n) × (chained (life b) t ≡ x + 1) × IsPlaceOf s name who x n
      × Reaches history born died life q x b (head x)
  -- the members of a block are bisected together
  pub both : (b y : ℕ) (t u : Bool) → who (name (member_of b t)) ≡ b + 1 → chained (life b) u ≡ y + 1 → who (name (member_of b u)) ≡ b + 1

-- a block in a chain that covers q bisects its members at q, and each stands at its place
abbrev pub IsSound : Setup → (ℕ → ℕ) → (ℕ → ℕ) → (ℕ → ℕ) → (ℕ → Life) → (ℕ → ℕ) → ℕ → Type 0
IsSound s name born died life who q = (b : ℕ) (t : Bool) (x : ℕ) → chained (life b) t ≡ x + 1 → Covers born died q b → (who (name (member_of b t)) ≡ b + 1)
    × IsPlaceOf s name who x (name (member_of b t))

-- the last finished round, or one of which a pin is out
abbrev pub IsKept : ℕ → (ℕ → Read) → ℕ → Type 0
IsKept round read q = (q ≡ round) ⊎ ((j : ℕ) × ((read j).pin ≡ q + 1))

-- a kept round, or, but while it is rolled back, the current round
abbrev pub MayRead : ℕ → Phase → (ℕ → Read) → ℕ → Type 0
MayRead round phase read q = IsKept round read q ⊎ ((q ≡ round + 1) × (Precedes phase RollingBack))

-- the NAME words of a block are a patch, with a second member exactly where the block has a second place
abbrev pub IsPatch : Setup → (ℕ → ℕ) → ℕ → ℕ → Type 0
IsPatch s name b m = (s.leads (name (member_of b false)) ≡ true) × (name (member_of b true) ≡ s.mate (name (member_of b false)))
    × ((m ≡ 0) × (s.mate (name (member_of b false)) ≡ 0) ⊎ ((y : ℕ) × (k : ℕ) × (m ≡ y + 1) × (s.mate (name (member_of b false)) ≡ k + 1)))

-- the block was published and is not retired
abbrev pub IsLiving : (ℕ → ℕ) → (ℕ → ℕ) → (ℕ → Life) → ℕ → Type 0
IsLiving born died life b = (x : ℕ) × (m : ℕ) × (life b ≡ Placed x m) × (0 < born b) × (died b ≡ 0)

pub record NamesRule (s : Setup) (round : ℕ) (phase : Phase) (name : ℕ → ℕ) (head history : ℕ → Node) (born died : ℕ → ℕ) (life : ℕ → Life) (who : ℕ → ℕ
    → ℕ) (read : ℕ
    → Read) : Type 0 where
  pub fits : (q : ℕ) → MayRead round phase read q → Fits s name head history born died life (who q) q
  pub sound : (q : ℕ) → MayRead round phase read q → IsSound s name born died life (who q) q
  pub patch : (b x m : ℕ) → life b ≡ Placed x m → IsPatch s name b m
  -- no patch has two living blocks
  pub one : (b c : ℕ) → IsLiving born died life b → IsLiving born died life c → name (member_of b false) ≡ name (member_of c false) → b ≡ c
  -- blocks are retired in the second half and while the round is closed alone
  pub calm : (b x m : ℕ) → (phase ≡ SecondHalf → ⊥) × (phase ≡ Closing → ⊥) → life b ≡ Placed x m → died b ≤ round
  -- the first half only adds to the last finished round's forest, from which the round begins
  pub grows : (n b : ℕ) → Precedes phase SecondHalf → who round n ≡ b + 1 → who (round + 1) n ≡ b + 1
  -- and the second half only takes from it
  pub either : (n b : ℕ) → Precedes phase RollingBack → who round n ≡ b + 1 → (who (round + 1) n ≡ b + 1) ⊎ (who (round + 1) n ≡ 0)
  pub fresh : (n : ℕ) → phase ≡ Resting → who (round + 1) n ≡ who round n
