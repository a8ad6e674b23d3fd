-- Indices with holes: which are used, the least unused one, and what compression gives.
use Rattle.std.specs.Prelude.{◌≡◌, ℕ, ◌+◌, ◌<◌, Bool, true, false, List, ◌∷◌, ◌++◌, length, take, drop, count_by, slice_index, slice_index_or}

-- what callers see: whether each index below the size is used, and how many more can be got with no memory
pub record Administration : Type 0 where
  pub flags : List Bool
  pub spare : ℕ

-- whether an index is used: at and above the size none is
abbrev pub used_at : List Bool → ℕ → Bool
used_at flags i = slice_index_or flags i false

-- how many indices are used
abbrev pub used_count : List Bool → ℕ
used_count flags = count_by (λ used. used) flags

-- the least index that is not used; where there is no hole, it is the size
pub record IsLeastUnused (flags : List Bool) (i : ℕ) : Type 0 where
  pub unused : used_at flags i ≡ false
  pub least : (j : ℕ) → j < i → used_at flags j ≡ true

-- the flags once an index, the size at most, is used too
abbrev pub with_used : List Bool → ℕ → List Bool
with_used flags i = take i flags ++ true ∷ drop (i + 1) flags

-- what compression makes of each index: of a used one the number of used ones below it, of a hole 4294967295
pub record IsRenumbering (flags : List Bool) (moved : List ℕ) : Type 0 where
  pub whole : length moved ≡ length flags
  pub used : (i : ℕ) → used_at flags i ≡ true → slice_index moved i ≡ used_count (take i flags)
  pub hole : (i : ℕ) → i < length flags → used_at flags i ≡ false → slice_index moved i ≡ 4294967295
