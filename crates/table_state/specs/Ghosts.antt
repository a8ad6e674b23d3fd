-- What the rule says beyond the words and the views: how far each claim has come, what becomes
-- of each block, which block bisects a name at a round, and how many pins were taken.
use Rattle.std.specs.Prelude.{ℕ, ◌+◌, Bool, cond}
use Rattle.table_words.specs.Claims.{Progress}

-- The claim of a place: none, or its seat, one more than the place of the patch's second member (or 0), and how far it has come
pub data Stage : Type 0 where
  Open : Stage
  Held : ℕ → ℕ → Progress → Stage

-- A block is free; or it was drawn for the claim of a place (one more than it) and is in no chain; or it is in the
-- chains of the places of its members (the second one more than it, or 0); or it was rolled back from them
pub data Life : Type 0 where
  Free : Life
  Loose : ℕ → Life
  Placed : ℕ → ℕ → Life
  RolledBack : ℕ → ℕ → Life

pub record Ghost : Type 0 where
  -- by the place of the patch's first member
  pub stage : ℕ → Stage
  -- by block
  pub life : ℕ → Life
  -- by round and name: one more than the block that bisects the name at the round, or 0
  pub who : ℕ → ℕ → ℕ
  -- by round
  pub pins : ℕ → ℕ

-- one more than the place in whose chain the block's member is, or 0
abbrev pub chained : Life → Bool → ℕ
chained Free second = 0
chained (Loose u) second = 0
chained (Placed x m) second = cond second m (x + 1)
chained (RolledBack x m) second = 0

-- one more than the place where the block's member stands: as above, and also where the block was rolled back
abbrev pub stands : Life → Bool → ℕ
stands Free second = 0
stands (Loose u) second = 0
stands (Placed x m) second = cond second m (x + 1)
stands (RolledBack x m) second = cond second m (x + 1)
