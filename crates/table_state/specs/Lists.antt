-- The lists of a round, the history of the finished rounds, the numbers of draws, and who is at work.
use Rattle.std.specs.Prelude.{◌≡◌, ℕ, ◌+◌, ◌<◌, ◌≤◌, Bool, List, [], ◌++◌, length, ◌⊎◌, false}
use Rattle.table_words.specs.Entries.{HasEntry, EntryAt}
use Rattle.table_words.specs.Setup.{Setup}
use Rattle.table_words.specs.Claims.{Progress, Living}
use Rattle.table_words.specs.Views.{Resting, FirstHalf, Closing, RollingBack, Worker, Plan, Work, Read, Kind, Phase, Precedes}
use Rattle.table_state.specs.Ghosts.{Stage, Held}
use Rattle.table_state.specs.Claims.{block_of, draws}

-- a block bisects the name, where `who` says which
abbrev pub Holds : (ℕ → ℕ) → ℕ → Type 0
Holds who n = (b : ℕ) × (who n ≡ b + 1)

-- with each name the parent is there, and the other member of the patch
pub record IsClosed (s : Setup) (Has : ℕ → Type 0) : Type 0 where
  pub parents : (n : ℕ) (c : Bool) → Has (s.child n c) → Has n
  pub seconds : (n k : ℕ) → s.mate n ≡ k + 1 → Has n → Has (k + 1)
  pub firsts : (n k : ℕ) → s.mate n ≡ k + 1 → Has (k + 1) → Has n

-- the target has the old names and the needs, is closed, and lies in each closed set of names that has these
pub record IsTarget (s : Setup) (Old : ℕ → Type 0) (p : Plan) : Type 0 where
  pub closed : IsClosed s (HasEntry p.target)
  pub olds : (n : ℕ) → Old n → HasEntry p.target n
  pub needs : (n : ℕ) → HasEntry p.needs n → HasEntry p.target n
  pub least : (other : ℕ → ℕ) → IsClosed s (Holds other) → ((n : ℕ) → Old n → Holds other n) → ((n : ℕ) → HasEntry p.needs n → Holds other n) → (n : ℕ)
      → HasEntry p.target n → Holds other n

-- n is a member of the patch whose first member is k
abbrev pub IsMember : Setup → ℕ → ℕ → Type 0
IsMember s k n = (n ≡ k) ⊎ ((i : ℕ) × (s.mate k ≡ i + 1) × (n ≡ i + 1))

-- n is a member of a patch whose first member is listed
abbrev pub IsListed : Setup → List ℕ → ℕ → Type 0
IsListed s list n = (k : ℕ) × HasEntry list k × IsMember s k n

-- the lists of the current round
pub record PlanRule (s : Setup) (round : ℕ) (phase : Phase) (who : ℕ → ℕ → ℕ) (kind : ℕ → Kind) (work : ℕ → Work) (p : Plan) : Type 0 where
  -- each worker's pass has them
  pub same : (j : ℕ) → kind j ≡ Worker → (work j).plan ≡ p
  pub aim : Precedes Resting phase → Precedes phase RollingBack → IsTarget s (Holds (who round)) p
  -- the names that are bisected in the round are of the target
  pub within : (n : ℕ) → Precedes Resting phase → Precedes phase RollingBack → Holds (who (round + 1)) n → HasEntry p.target n
  -- from the second half on all of the target are, but of patches of the retire list
  pub whole : (n : ℕ) → Precedes FirstHalf phase → Precedes phase RollingBack → HasEntry p.target n → Holds (who (round + 1)) n ⊎ IsListed s p.retire n
  -- of which none is when the round is closed
  pub done : (n : ℕ) → phase ≡ Closing → IsListed s p.retire n → who (round + 1) n ≡ 0

-- the forests of the finished rounds, and what passes were told of them
pub record HistoryRule (round : ℕ) (who : ℕ → ℕ → ℕ) (read : ℕ → Read) (history : List (List ℕ)) : Type 0 where
  pub rounds : length history ≡ round + 1
  pub forests : (q : ℕ) (names : List ℕ) → EntryAt history q names → (n : ℕ) → (HasEntry names n → Holds (who q) n) × (Holds (who q) n → HasEntry names n)
  -- what a pass was told is a prefix of the history
  pub told : (j : ℕ) → (rest : List (List ℕ)) × (history ≡ (read j).told ++ rest)
  -- what it saw is a finished round, and none before the last that it was told
  pub seen : (j : ℕ) → ((read j).seen ≤ round) × (length (read j).told ≤ (read j).seen + 1)
  -- its pin is of no round before the last finished one when it was made
  pub made : (j : ℕ) → ((read j).made ≤ (read j).seen) × ((q : ℕ) → (read j).pin ≡ q + 1 → (read j).made ≤ q)

-- the draws of the first half
pub record DrawnRule (phase : Phase) (cursor free : ℕ) (row : ℕ → ℕ) (kind : ℕ → Kind) (work : ℕ → Work) : Type 0 where
  -- only workers' passes and the owner have draws
  pub only : (j : ℕ) → (kind j ≡ Worker → ⊥) → (j ≡ 0 → ⊥) → (work j).drawn ≡ []
  -- a draw's number is below CURSOR, and below FREE its block is that of the row
  pub drawn : (j i b : ℕ) → HasEntry (work j).drawn (i, b) → (phase ≡ FirstHalf) × (i < cursor) × (i < free → b ≡ row i + 1) × (free ≤ i → b ≡ 0)
  -- a draw is in one view
  pub apart : (j k i b c : ℕ) → HasEntry (work j).drawn (i, b) → HasEntry (work k).drawn (i, c) → j ≡ k

-- in the first half each claim for which a draw was made has its block, or none, by a draw that the claim's seat has
abbrev pub DrawnFor : Phase → (ℕ → Work) → (ℕ → Stage) → Type 0
DrawnFor phase work stage = (x j m : ℕ) (p : Progress) → phase ≡ FirstHalf → stage x ≡ Held j m p → draws p ≡ 1 → (i : ℕ)
    × HasEntry (work j).drawn (i, block_of p)

-- who is at work
pub record CrewRule (s : Setup) (round : ℕ) (phase : Phase) (kind : ℕ → Kind) (work : ℕ → Work) (stage : ℕ → Stage) (lone : Bool) : Type 0 where
  -- a current round is one of those for which the table was made
  pub rounds : (round ≤ s.rounds) × (Precedes Resting phase → round < s.rounds)
  -- while a pass of worker 0 is out in the first half, no other worker's is, and each claim without a living block is its own
  pub alone : (j : ℕ) → phase ≡ FirstHalf → kind j ≡ Worker → (work j).number ≡ 0 → ((i : ℕ) → kind i ≡ Worker → i ≡ j)
      × ((x i m : ℕ) (p : Progress) → stage x ≡ Held i m p → (i ≡ j) ⊎ ((b : ℕ) × (p ≡ Living b)))
  -- the owner knows where none is out
  pub none : (j : ℕ) → phase ≡ FirstHalf → lone ≡ false → kind j ≡ Worker → (work j).number ≡ 0 → ⊥
