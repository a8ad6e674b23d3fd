-- What the passes at work know.
use Rattle.std.specs.Prelude.{◌≡◌, ℕ, ◌+◌, ◌<◌, ◌≤◌, Bool, false, List, [], ◌⊎◌}
use Rattle.table_words.specs.Entries.{HasEntry}
use Rattle.table_words.specs.Places.{member_of, child_place}
use Rattle.table_words.specs.Setup.{Setup}
use Rattle.table_words.specs.Views.{FirstHalf, SecondHalf, Worker, Walk, Still, At, Past, Work, Kind, Phase}
use Rattle.table_words.specs.Words.{Node}
use Rattle.table_state.specs.Ghosts.{Life, Placed, chained, stands}
use Rattle.table_state.specs.Chains.{Covers, Reaches}
use Rattle.table_state.specs.Bisections.{IsPlaceOf}

-- `who` says which blocks bisect names at the current round
pub record WorkRule (s : Setup) (round : ℕ) (phase : Phase) (name born died : ℕ → ℕ) (life : ℕ → Life) (who : ℕ
    → ℕ) (kind : Kind) (seat : ℕ) (v : Work) : Type 0 where
  -- only workers' passes and the owner know of the work
  pub only : (kind ≡ Worker → ⊥) → (seat ≡ 0 → ⊥) → (v.found ≡ []) × (v.known ≡ []) × (v.open_ ≡ []) × (v.given ≡ [])
  -- a place that was found in the first half is its element's, and a name that was found bisected is so
  pub found : (x n : ℕ) → HasEntry v.found (x, n) → (phase ≡ FirstHalf) × IsPlaceOf s name who x n
  pub known : (n : ℕ) → HasEntry v.known n → (phase ≡ FirstHalf) × ((b : ℕ) × (who n ≡ b + 1))
  -- a name that was found not bisected in the second half is not
  pub open_ : (n : ℕ) → HasEntry v.open_ n → (phase ≡ SecondHalf) × (who n ≡ 0)
  -- a block that was found for a patch of the retire list is its block, of a finished round, and is not retired by that
  pub given : (b k : ℕ) → HasEntry v.given (b, k) → (phase ≡ SecondHalf) × (name (member_of b false) ≡ k)
      × ((x : ℕ) × (m : ℕ) × (life b ≡ Placed x m) × (0 < born b) × (born b ≤ round) × ((died b ≡ 0) ⊎ (died b ≡ round + 1)))

-- the element n stands at x at the last finished round, or, in the first half, at the current round
abbrev pub IsWorkPlace : Setup → ℕ → Phase → (ℕ → ℕ) → (ℕ → ℕ → ℕ) → ℕ → ℕ → Type 0
IsWorkPlace s round phase name who x n = ((phase ≡ FirstHalf) × IsPlaceOf s name (who (round + 1)) x n) ⊎ IsPlaceOf s name (who round) x n

-- Where a worker's walk is: it is idle; or it has gone to a block's member in the chain of the place of a name, whose
-- block at the last finished round, if there is one, is this or is found behind it; or it has passed that block by
abbrev pub WorkWalks : Setup → ℕ → Phase → (ℕ → ℕ) → (ℕ → Node) → (ℕ → ℕ) → (ℕ → ℕ) → (ℕ → Life) → (ℕ → ℕ → ℕ) → List ℕ → Walk → Type 0
WorkWalks s round phase name history born died life who went Still = Unit {0}
WorkWalks s round phase name history born died life who went (At x n b t) = HasEntry went b × (chained (life b) t ≡ x + 1)
    × IsWorkPlace s round phase name who x n
    × ((c : ℕ) → who round n ≡ c + 1 → ((b ≡ c) × Covers born died round c) ⊎ Reaches history born died life round x c (history (member_of b t)))
WorkWalks s round phase name history born died life who went (Past x n b t) = HasEntry went b × (chained (life b) t ≡ x + 1)
    × IsWorkPlace s round phase name who x n × ((c : ℕ) → who round n ≡ c + 1 → Reaches history born died life round x c (history (member_of b t)))

-- what the passes at work know of the last finished round, and where they walk
pub record WalkRule (s : Setup) (round : ℕ) (phase : Phase) (name : ℕ → ℕ) (history : ℕ → Node) (born died : ℕ → ℕ) (life : ℕ → Life) (who : ℕ → ℕ
    → ℕ) (kind : Kind) (seat : ℕ) (v : Work) : Type 0 where
  -- only workers' passes walk, and only they and the owner know of the work
  pub still : (kind ≡ Worker → ⊥) → (v.went ≡ []) × (v.walk ≡ Still)
  pub only : (kind ≡ Worker → ⊥) → (seat ≡ 0 → ⊥) → (v.absent ≡ []) × (v.stood ≡ []) × (v.had ≡ []) × (v.retired ≡ [])
  -- a worker's pass knows its half
  pub half : kind ≡ Worker → v.half ≡ phase
  -- and the round in which it works, the one after the last finished
  pub at_work : kind ≡ Worker → v.round ≡ round + 1
  -- blocks that it retired are below the pool
  pub retired_in : (b : ℕ) → HasEntry v.retired b → b < s.pool
  pub absent : (n : ℕ) → HasEntry v.absent n → who round n ≡ 0
  pub stood : (x n : ℕ) → HasEntry v.stood (x, n) → IsPlaceOf s name (who round) x n
  pub had : (b n : ℕ) → HasEntry v.had (b, n) → who round n ≡ b + 1
  -- a block to which the pass went stands somewhere, and was not retired by the last finished round
  pub went : (b : ℕ) → HasEntry v.went b → ((t : Bool) × (x : ℕ) × (stands (life b) t ≡ x + 1)) × ((died b ≡ 0) ⊎ (round < died b))
  pub walk : WorkWalks s round phase name history born died life who v.went v.walk
  -- the member to which a walk has gone has the element's name
  pub sided : (x n b : ℕ) (t : Bool) → (v.walk ≡ At x n b t) ⊎ (v.walk ≡ Past x n b t) → name (member_of b t) ≡ n

-- the element n stands at the place x, of a child of a block that was born in the current round and
-- bisects the parent's name there, where `who` says which blocks bisect names at the current round
abbrev pub IsGrown : Setup → ℕ → (ℕ → ℕ) → (ℕ → ℕ) → (ℕ → ℕ) → ℕ → ℕ → Type 0
IsGrown s round name born who x n = (b : ℕ) × (t c : Bool) × (x ≡ child_place s.elements b t c) × (born b ≡ round + 1) × (who (name (member_of b t)) ≡ b + 1)
    × (n ≡ s.child (name (member_of b t)) c)

-- what a pass of the second half knows of these: such blocks are not retired in the round
pub record GrownRule (s : Setup) (round : ℕ) (phase : Phase) (name born : ℕ → ℕ) (who : ℕ → ℕ) (kind : Kind) (seat : ℕ) (v : Work) : Type 0 where
  pub only : (kind ≡ Worker → ⊥) → (seat ≡ 0 → ⊥) → v.grown ≡ []
  pub grown : (x n : ℕ) → HasEntry v.grown (x, n) → (phase ≡ SecondHalf) × IsGrown s round name born who x n

-- a block that some seat knows to have been retired in the current round was so
abbrev pub RetiredRight : ℕ → (ℕ → ℕ) → (ℕ → Life) → (ℕ → Work) → List ℕ → Type 0
RetiredRight round died life work retired = (b : ℕ) → ((j : ℕ) × HasEntry (work j).retired b) ⊎ HasEntry retired b → (x : ℕ) × (m : ℕ) × (life b ≡ Placed x m)
    × (died b ≡ round + 1)

-- each block that was retired in the current round is known to have been so by some seat
abbrev pub RetiredKnown : ℕ → (ℕ → ℕ) → (ℕ → Life) → (ℕ → Work) → List ℕ → Type 0
RetiredKnown round died life work retired = (b x m : ℕ) → life b ≡ Placed x m → died b ≡ round + 1 → ((j : ℕ) × HasEntry (work j).retired b)
    ⊎ HasEntry retired b
