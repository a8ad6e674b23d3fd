-- What can be wrong with a triple, and the first place where something is.
use Rattle.std.specs.Prelude.{◌≡◌, ℕ, ◌<◌, ◌≤◌, ◌⊎◌, ℤ, pos, ◌-ℤ◌, ◌*ℤ◌, List, Option, Some, None, slice_get, slice_index_or, [], length}
use Rattle.macro_file.specs.declared.text.MacroVertex.{MacroVertex}
use Rattle.mesh_names.specs.Triangles.{Triple, corner_of}

-- the first of n places where P holds, if there is one
abbrev pub IsFirst : ℕ → (ℕ → Type 0) → Option ℕ → Type 0
IsFirst n P None = (i : ℕ) → i < n → P i → ⊥
IsFirst n P (Some i) = (i < n) × P i × ((j : ℕ) → j < i → P j → ⊥)

abbrev pub triple_in : List Triple → ℕ → Triple
triple_in triples r = slice_index_or triples r []

-- a corner is no vertex
abbrev pub IsOutside : ℕ → Triple → Type 0
IsOutside count t = (count ≤ corner_of t 0) ⊎ (count ≤ corner_of t 1) ⊎ (count ≤ corner_of t 2)

-- two corners are equal
abbrev pub IsRepeated : Triple → Type 0
IsRepeated t = (corner_of t 0 ≡ corner_of t 1) ⊎ (corner_of t 1 ≡ corner_of t 2) ⊎ (corner_of t 0 ≡ corner_of t 2)

-- the coordinates of a vertex
abbrev pub point_of : Option MacroVertex → ℤ × ℤ
point_of None = (pos 0, pos 0)
point_of (Some v) = (v.x, v.y)

abbrev pub point_at : List MacroVertex → ℕ → ℤ × ℤ
point_at vertices i = point_of (slice_get vertices i)

-- twice the area of a triangle, below 0 where its corners go round to the right
abbrev pub doubled_area : ℤ × ℤ → ℤ × ℤ → ℤ × ℤ → ℤ
doubled_area a b c = ((b.0 -ℤ a.0) *ℤ (c.1 -ℤ a.1)) -ℤ ((c.0 -ℤ a.0) *ℤ (b.1 -ℤ a.1))

-- the three corners lie on a line
abbrev pub IsFlat : List MacroVertex → Triple → Type 0
IsFlat vertices t = doubled_area (point_at vertices (corner_of t 0)) (point_at vertices (corner_of t 1)) (point_at vertices (corner_of t 2)) ≡ pos 0

-- no corner is outside, no two are equal, and no element is flat
pub record AreSound (vertices : List MacroVertex) (triples : List Triple) : Type 0 where
  pub inside : IsFirst (length triples) (λ r. IsOutside (length vertices) (triple_in triples r)) None
  pub distinct : IsFirst (length triples) (λ r. IsRepeated (triple_in triples r)) None
  pub thick : IsFirst (length triples) (λ r. IsFlat vertices (triple_in triples r)) None
