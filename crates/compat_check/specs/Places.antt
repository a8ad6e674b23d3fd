-- Edges in one order: place 3 r + e is edge e of element r.
use Rattle.std.specs.Prelude.{◌≡◌, ℕ, ◌*◌, ◌/◌, ◌%◌, ◌<◌, min, max, List, [], length, Option, Some, None, slice_get, slice_index_or}
use Rattle.mesh_names.specs.Triangles.{Triple}
use Rattle.mesh_names.specs.Validity.{ends_of, IsSamePair}
use Rattle.compat_check.specs.Meshes.{edge_of}

-- the two ends of the edge at a place, in the sense of the triple
abbrev pub ends_at : List Triple → ℕ → ℕ × ℕ
ends_at triples place = ends_of (slice_index_or triples (place / 3) []) (edge_of (place % 3))

abbrev pub in_order : ℕ × ℕ → ℕ × ℕ
in_order p = (min p.0 p.1, max p.0 p.1)

pub record AreEdgeKeys (triples : List Triple) (keys : List (ℕ × ℕ)) : Type 0 where
  pub each : length keys ≡ length triples * 3
  pub key : (place : ℕ) → place < length keys → slice_get keys place ≡ Some (in_order (ends_at triples place))

-- two places have one edge
abbrev pub Meets : List Triple → ℕ → ℕ → Type 0
Meets triples j i = IsSamePair (ends_at triples j) (ends_at triples i)

-- the last place before i with the same edge
abbrev pub IsEarlier : List Triple → ℕ → Option ℕ → Type 0
IsEarlier triples i None = (j : ℕ) → j < i → Meets triples j i → ⊥
IsEarlier triples i (Some j) = (j < i) × Meets triples j i × ((k : ℕ) → j < k → k < i → Meets triples k i → ⊥)

pub record AreEarlier (triples : List Triple) (earlier : List (Option ℕ)) : Type 0 where
  pub each : length earlier ≡ length triples * 3
  pub last : (i : ℕ) → i < length triples * 3 → IsEarlier triples i (slice_index_or earlier i None)
