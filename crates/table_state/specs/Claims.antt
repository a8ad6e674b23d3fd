-- Claims, draws and free rows.
use Rattle.std.specs.Prelude.{◌≡◌, ℕ, ◌+◌, ◌<◌, ◌≤◌, List, ◌⊎◌}
use Rattle.table_words.specs.Views.{Resting, FirstHalf, SecondHalf, Closing, Phase}
use Rattle.table_words.specs.Claims.{Progress, Claimed, Failed, Drawn, Half, Whole, Living, Claim, claim}
use Rattle.table_words.specs.Entries.{HasEntry}
use Rattle.table_words.specs.Setup.{Setup, places}
use Rattle.table_words.specs.Sums.{sum_below}
use Rattle.table_words.specs.Words.{Node, node}
use Rattle.table_state.specs.Ghosts.{Stage, Open, Held, Life, Free, Loose, Placed}

-- the claim bit of a place
abbrev pub bit_of : Stage → ℕ
bit_of Open = 0
bit_of (Held j m p) = 1

-- how many draws were made for a claim
abbrev pub draws : Progress → ℕ
draws Claimed = 0
draws Failed = 1
draws (Drawn b) = 1
draws (Half b) = 1
draws (Whole b) = 1
draws (Living b) = 1

abbrev pub draws_of : Stage → ℕ
draws_of Open = 0
draws_of (Held j m p) = draws p

-- one more than the block that the first place's LINK names for the claim, or 0
abbrev pub linked : Progress → ℕ
linked Claimed = 0
linked Failed = 0
linked (Drawn b) = 0
linked (Half b) = b + 1
linked (Whole b) = b + 1
linked (Living b) = b + 1

-- the block of a claim, one more than its number, or 0
abbrev pub block_of : Progress → ℕ
block_of Claimed = 0
block_of Failed = 0
block_of (Drawn b) = b + 1
block_of (Half b) = b + 1
block_of (Whole b) = b + 1
block_of (Living b) = b + 1

-- what the words have of a claim of the place x with the second place m
abbrev pub Shape : ℕ → (ℕ → Node) → (ℕ → ℕ) → (ℕ → Life) → ℕ → ℕ → Progress → Type 0
Shape round head born life x m Claimed = Unit {0}
Shape round head born life x m Failed = Unit {0}
Shape round head born life x m (Drawn b) = (life b ≡ Loose (x + 1)) × (born b ≡ 0)
Shape round head born life x m (Half b) = (life b ≡ Placed x m) × (born b ≡ 0) × (head x ≡ node (b + 1) 0) × ((y : ℕ) → m ≡ y + 1 → (head y).block ≡ b + 1 → ⊥)
Shape round head born life x m (Whole b) = (life b ≡ Placed x m) × (born b ≡ 0) × (head x ≡ node (b + 1) 0) × ((y : ℕ) → m ≡ y + 1 → head y ≡ node (b + 1) 0)
Shape round head born life x m (Living b) = (life b ≡ Placed x m) × (born b ≡ round + 1) × (head x ≡ node (b + 1) 0)
    × ((y : ℕ) → m ≡ y + 1 → head y ≡ node (b + 1) 0)

pub record ClaimsRule (s : Setup) (round cursor free : ℕ) (phase : Phase) (row : ℕ → ℕ) (claimed : ℕ → ℕ) (head : ℕ → Node) (born : ℕ → ℕ) (life : ℕ
    → Life) (stage : ℕ
    → Stage) (claims : ℕ → List Claim) : Type 0 where
  -- a claim in a view is that of its place, and is in the view of its seat
  pub held : (j x m : ℕ) (p : Progress) → HasEntry (claims j) (claim x m p) → stage x ≡ Held j m p
  pub holds : (j x m : ℕ) (p : Progress) → stage x ≡ Held j m p → HasEntry (claims j) (claim x m p)
  pub bits : (x : ℕ) → claimed x ≡ bit_of (stage x)
  pub inside : (x : ℕ) → places s ≤ x → stage x ≡ Open
  -- a second place is no claim's first place, and of one claim alone
  pub mates : (x j y : ℕ) (p : Progress) → stage x ≡ Held j (y + 1) p → (stage y ≡ Open) × ((z i : ℕ) (q : Progress) → stage z ≡ Held i (y + 1) q → z ≡ x)
  pub shape : (x j m : ℕ) (p : Progress) → stage x ≡ Held j m p → Shape round head born life x m p
  -- each block that was born in the current round has its claim, but while the round is closed
  pub kept : (b x m : ℕ) → life b ≡ Placed x m → born b ≡ round + 1 → (phase ≡ Closing → ⊥) → (j : ℕ) × (stage x ≡ Held j m (Living b))
  -- each block in a chain that is not born has its claim
  pub half : (b x m : ℕ) → life b ≡ Placed x m → born b ≡ 0 → (j : ℕ) × ((stage x ≡ Held j m (Half b)) ⊎ (stage x ≡ Held j m (Whole b)))
  -- the rows from CURSOR on and below FREE name free blocks, each once
  pub rows : (i : ℕ) → cursor ≤ i → i < free → (life (row i) ≡ Free) × (born (row i) ≡ 0)
  pub apart : (i k : ℕ) → cursor ≤ i → i < free → cursor ≤ k → k < free → row i ≡ row k → i ≡ k
  -- in the first half CURSOR counts the draws
  pub drawn : phase ≡ FirstHalf → cursor ≡ sum_below (places s) (λ x. draws_of (stage x))
  -- in the second half each claim has a published block, and before the round there is no claim
  pub living : (x j m : ℕ) (p : Progress) → stage x ≡ Held j m p → phase ≡ SecondHalf → (b : ℕ) × (p ≡ Living b)
  pub none : (x : ℕ) → phase ≡ Resting → stage x ≡ Open
