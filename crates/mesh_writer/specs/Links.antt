-- Edges by their lesser ends.
use Rattle.std.specs.Prelude.{◌≡◌, ◌<◌, ℕ, List, length, Option, Some, None, slice_index_or}
use Rattle.mesh_names.specs.Triangles.{Triple}
use Rattle.compat_check.specs.Places.{ends_at, in_order}
use Rattle.mesh_writer.specs.declared.links.Links.{Links}

-- the edge at a place, the lesser end first
abbrev pub edge_at : List Triple → ℕ → ℕ × ℕ
edge_at triples place = in_order (ends_at triples place)

-- the last of the first n places whose lesser end is v
abbrev pub IsLast : List Triple → ℕ → ℕ → Option ℕ → Type 0
IsLast triples v n None = (k : ℕ) → k < n → (edge_at triples k).0 ≡ v → ⊥
IsLast triples v n (Some j) = (j < n) × ((edge_at triples j).0 ≡ v) × ((k : ℕ) → j < k → k < n → (edge_at triples k).0 ≡ v → ⊥)

-- the first n places are linked: each vertex to the last place, and each place to the last one before it
pub record AreLinked (triples : List Triple) (n : ℕ) (links : Links) : Type 0 where
  pub each : length links.before.items ≡ n
  pub lasts : (v : ℕ) → v < length links.lasts.items → IsLast triples v n (slice_index_or links.lasts.items v None)
  pub before : (k : ℕ) → k < n → IsLast triples (edge_at triples k).0 k (slice_index_or links.before.items k None)
