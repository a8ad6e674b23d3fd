-- The claims in a view.
use Rattle.std.specs.Prelude.{ℕ, ◌==◌, cond, List, [], ◌∷◌}

-- How far the holder of a claim has come: it has claimed the patch; its draw found no block; it drew a
-- block; the block is linked at the first member's place; at both; the block is published
pub data Progress : Type 0 where
  Claimed : Progress
  Failed : Progress
  Drawn : ℕ → Progress
  Half : ℕ → Progress
  Whole : ℕ → Progress
  Living : ℕ → Progress

-- a claim: the place of the patch's first member, one more than that of the second (or 0), and how far it has come
pub record Claim : Type 0 where
  pub place : ℕ
  pub mate : ℕ
  pub progress : Progress

abbrev pub claim : ℕ → ℕ → Progress → Claim
claim x m p = record { place = x; mate = m; progress = p }

-- the claims, of which that of x has come to p
abbrev pub moved_on : List Claim → ℕ → Progress → List Claim
moved_on [] x p = []
moved_on (c ∷ cs) x p = cond (c.place == x) (claim x c.mate p) c ∷ moved_on cs x p

-- the claims without that of x
abbrev pub ended : List Claim → ℕ → List Claim
ended [] x = []
ended (c ∷ cs) x = cond (c.place == x) (ended cs x) (c ∷ ended cs x)
