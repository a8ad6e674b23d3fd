-- Elements with the same three vertices.
use Rattle.std.specs.Prelude.{◌≡◌, ℕ, ◌<◌, min, max, List, length, Option, Some, None, slice_get, slice_index_or}
use Rattle.mesh_names.specs.Triangles.{Triple, corner_of}
use Rattle.mesh_names.specs.Validity.{IsTwin}
use Rattle.compat_check.specs.Faults.{triple_in}

-- three corners in order: the least, the middle and the greatest
abbrev pub in_order_of : ℕ → ℕ → ℕ → ℕ × ℕ × ℕ
in_order_of a b c = (min (min a b) c, max (min a b) (min (max a b) c), max (max a b) c)

abbrev pub corner_key : Triple → ℕ × ℕ × ℕ
corner_key t = in_order_of (corner_of t 0) (corner_of t 1) (corner_of t 2)

pub record AreCornerKeys (triples : List Triple) (keys : List (ℕ × ℕ × ℕ)) : Type 0 where
  pub each : length keys ≡ length triples
  pub key : (r : ℕ) → r < length keys → slice_get keys r ≡ Some (corner_key (triple_in triples r))

-- the last element before s with its three vertices
abbrev pub IsTwinBefore : List Triple → ℕ → Option ℕ → Type 0
IsTwinBefore triples s None = (r : ℕ) → r < s → IsTwin (triple_in triples r) (triple_in triples s) → ⊥
IsTwinBefore triples s (Some r) = (r < s) × IsTwin (triple_in triples r) (triple_in triples s)

pub record AreTwins (triples : List Triple) (earlier : List (Option ℕ)) : Type 0 where
  pub each : length earlier ≡ length triples
  pub last : (s : ℕ) → s < length triples → IsTwinBefore triples s (slice_index_or earlier s None)

-- no two elements have the same three vertices
abbrev pub TwinFree : List Triple → Type 0
TwinFree triples = (r s : ℕ) → r < s → s < length triples → IsTwin (triple_in triples r) (triple_in triples s) → ⊥
