-- What the steps of a seat found: an account that only grows, so that a call can say what its own steps found.
use Rattle.std.specs.Prelude.{◌≡◌, ℕ, List, [], ◌∷◌, ◌++◌}

-- a claim of a place found this LINK word; a draw found this number, and FREE was this; a walk for the name
-- ended at no block that bisects it, or at one that does; this block was published; a walk of the second half
-- ended at a block of a finished round that bisects the name; a load of this block's DIED found this word; a
-- retirement of this block found this DIED
pub data Saw : Type 0 where
  SawClaim : ℕ → ℕ → Saw
  SawDraw : ℕ → Saw
  SawFree : ℕ → Saw
  SawEnd : ℕ → Saw
  SawBisected : ℕ → Saw
  SawBirth : ℕ → Saw
  SawHad : ℕ → Saw
  SawDied : ℕ → ℕ → Saw
  SawRetire : ℕ → ℕ → Saw
