-- Equal keys in a list.
use Rattle.std.specs.Prelude.{◌≡◌, ℕ, ◌<◌, ◌≤◌, ◌⊎◌, List, length, Option, Some, None, slice_get, slice_index_or}
use Rattle.std.specs.declared.cmp.Ordering.{Ordering}
use Rattle.std.specs.declared.cmp.Ordering.TheVariants.{Less, Equal}

-- the keys at two places are equal
abbrev pub Ties : {K : Type 0} → (K → K → Ordering) → List K → ℕ → ℕ → Type 0
Ties {K} cmp keys j i = (a : K) × ((b : K) × (slice_get keys j ≡ Some a) × (slice_get keys i ≡ Some b) × (cmp a b ≡ Equal))

-- the last place before i whose key is equal to the one at i
abbrev pub IsLastTie : {K : Type 0} → (K → K → Ordering) → List K → ℕ → Option ℕ → Type 0
IsLastTie cmp keys i None = (j : ℕ) → j < i → Ties cmp keys j i → ⊥
IsLastTie cmp keys i (Some j) = (j < i) × Ties cmp keys j i × ((k : ℕ) → j < k → k < i → Ties cmp keys k i → ⊥)

pub record AreLastTies {K : Type 0} (cmp : K → K → Ordering) (keys : List K) (earlier : List (Option ℕ)) : Type 0 where
  pub each : length earlier ≡ length keys
  pub last : (i : ℕ) → i < length keys → IsLastTie cmp keys i (slice_index_or earlier i None)

-- each key with its place, in order of key and then of place
pub record IsRanked {K : Type 0} (cmp : K → K → Ordering) (keys : List K) (entries : List (K × ℕ)) : Type 0 where
  pub each : length entries ≡ length keys
  pub own : (p : ℕ) (e : K × ℕ) → slice_get entries p ≡ Some e → slice_get keys e.1 ≡ Some e.0
  pub every : (i : ℕ) (a : K) → slice_get keys i ≡ Some a → (p : ℕ) × (slice_get entries p ≡ Some (a, i))
  pub rises : (p q : ℕ) (e f : K × ℕ) → p ≤ q → slice_get entries p ≡ Some e → slice_get entries q ≡ Some f → (cmp e.0 f.0 ≡ Less) ⊎ ((cmp e.0 f.0 ≡ Equal) × (e.1 ≤ f.1))
