-- Where a name stands among names in order.
use Rattle.std.specs.Prelude.{◌≡◌, ℕ, ◌<◌, ◌≤◌, List, length, slice_index_or}
use Rattle.std.specs.declared.cmp.Ordering.TheVariants.{Less}
use Rattle.mesh_names.specs.Names.{Name, name_cmp}

-- so many of the names, from the first on, come before this one
pub record AreBefore (names : List Name) (n : Name) (count : ℕ) : Type 0 where
  pub within : count ≤ length names
  pub before : (k : ℕ) (d : Name) → k < count → name_cmp (slice_index_or names k d) n ≡ Less

-- from this place on none of the names comes before this one
abbrev pub AreNotBefore : List Name → Name → ℕ → Type 0
AreNotBefore names n from = (k : ℕ) (d : Name) → from ≤ k → k < length names → name_cmp (slice_index_or names k d) n ≡ Less → ⊥

-- the rank of a name: so many of the names come before it, and no others
pub record IsRank (names : List Name) (n : Name) (rank : ℕ) : Type 0 where
  pub earlier : AreBefore names n rank
  pub later : AreNotBefore names n rank
