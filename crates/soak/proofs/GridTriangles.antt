-- The corners of a grid's triangles: no two of one triangle are equal, no triangle is flat, and no two have the same three.
use Rattle.std.proofs.Common.{◌≡◌, ℕ, ◌+◌, ◌*◌, ◌<◌, ◌≤◌, Bool, true, false, List, refl, sym, ap, ◌∙◌, inl, inr, arith}
use Rattle.std.specs.Prelude.{ℤ, pos, neg_ℤ, ◌-ℤ◌, ◌*ℤ◌}
use Rattle.std.proofs.lemmas.Int.{ints}
use Rattle.macro_file.specs.declared.text.MacroVertex.{MacroVertex}
use Rattle.mesh_names.specs.Validity.{HasCorner, IsTwin}
use Rattle.compat_check.specs.Faults.{IsFlat, IsOutside, IsRepeated, doubled_area, point_at}
use Rattle.soak.specs.Grid.{unit, vertex_number, lower, upper}
use Rattle.soak.proofs.GridEdges.{half_of}

pub not_outside : (count g : ℕ) (b : Bool) (a : ℕ) → a + g + 2 < count → IsOutside count (half_of g b a) → ⊥
not_outside count g true a low (inl h) = omega (arith, low, h)
not_outside count g true a low (inr (inl h)) = omega (arith, low, h)
not_outside count g true a low (inr (inr h)) = omega (arith, low, h)
not_outside count g false a low (inl h) = omega (arith, low, h)
not_outside count g false a low (inr (inl h)) = omega (arith, low, h)
not_outside count g false a low (inr (inr h)) = omega (arith, low, h)

pub not_repeated : (g : ℕ) → 1 ≤ g → (b : Bool) (a : ℕ) → IsRepeated (half_of g b a) → ⊥
not_repeated g some true a (inl h) = omega (arith, some, h)
not_repeated g some true a (inr (inl h)) = omega (arith, some, h)
not_repeated g some true a (inr (inr h)) = omega (arith, some, h)
not_repeated g some false a (inl h) = omega (arith, some, h)
not_repeated g some false a (inr (inl h)) = omega (arith, some, h)
not_repeated g some false a (inr (inr h)) = omega (arith, some, h)

-- the numbers of a triangle's corners lie between those of the diagonal's ends
near : (g : ℕ) (b : Bool) (a v : ℕ) → HasCorner (half_of g b a) v → (a ≤ v) × (v ≤ a + g + 2)
near g true a v (inl h) = (omega (arith, h), omega (arith, h))
near g true a v (inr (inl h)) = (omega (arith, h), omega (arith, h))
near g true a v (inr (inr h)) = (omega (arith, h), omega (arith, h))
near g false a v (inl h) = (omega (arith, h), omega (arith, h))
near g false a v (inr (inl h)) = (omega (arith, h), omega (arith, h))
near g false a v (inr (inr h)) = (omega (arith, h), omega (arith, h))

-- the third corners of a square's two triangles are not each other's
not_both : (g : ℕ) → 1 ≤ g → (a d : ℕ) → a ≡ d → HasCorner (upper g d) (a + 1) → ⊥
not_both g some a d e (inl h) = omega (arith, some, e, h)
not_both g some a d e (inr (inl h)) = omega (arith, some, e, h)
not_both g some a d e (inr (inr h)) = omega (arith, some, e, h)

not_both_back : (g : ℕ) → 1 ≤ g → (a d : ℕ) → a ≡ d → HasCorner (lower g d) (a + g + 1) → ⊥
not_both_back g some a d e (inl h) = omega (arith, some, e, h)
not_both_back g some a d e (inr (inl h)) = omega (arith, some, e, h)
not_both_back g some a d e (inr (inr h)) = omega (arith, some, e, h)

-- triangles with the same three corners are the same half of squares with one first vertex
pub one_triangle : (g : ℕ) → 1 ≤ g → (b c : Bool) (a d : ℕ) → IsTwin (half_of g b a) (half_of g c d) → (b ≡ c) × (a ≡ d)
one_triangle g some true true a d h = (refl, omega (arith, near g true d (a + g + 2) h.0, near g true d a h.1))
one_triangle g some false false a d h = (refl, omega (arith, near g false d a h.0, near g false d (a + g + 2) h.1))
one_triangle g some true false a d h = absurd (not_both g some a d (omega (arith, near g false d (a + g + 2) h.0, near g false d a h.1)) h.2)
one_triangle g some false true a d h = absurd (not_both_back g some a d (omega (arith, near g true d a h.0, near g true d (a + g + 2) h.1)) h.2)

-- where the vertex at (i, j) lies
abbrev pub spot : ℕ → ℕ → ℤ × ℤ
spot i j = (pos (i * unit), pos (j * unit))

-- the vertices of the grid lie where they should
abbrev pub AreSpots : ℕ → List MacroVertex → Type 0
AreSpots g vertices = (i j : ℕ) → i ≤ g → j ≤ g → point_at vertices (vertex_number g i j) ≡ spot i j

onward : (i : ℕ) → pos ((i + 1) * unit) -ℤ pos (i * unit) ≡ pos unit
onward i = omega (arith, ints)

backward : (i : ℕ) → pos (i * unit) -ℤ pos ((i + 1) * unit) ≡ neg_ℤ (pos unit)
backward i = omega (arith, ints)

nowhere : (i : ℕ) → pos (i * unit) -ℤ pos (i * unit) ≡ pos 0
nowhere i = omega (arith, ints)

lower_area : (i j : ℕ) → doubled_area (spot (i + 1) (j + 1)) (spot i j) (spot (i + 1) j) ≡ pos (unit * unit)
lower_area i j = λ t. (backward i t *ℤ backward j t) -ℤ (nowhere (i + 1) t *ℤ backward j t)

upper_area : (i j : ℕ) → doubled_area (spot i j) (spot (i + 1) (j + 1)) (spot i (j + 1)) ≡ pos (unit * unit)
upper_area i j = λ t. (onward i t *ℤ onward j t) -ℤ (nowhere i t *ℤ onward j t)

not_zero : pos (unit * unit) ≡ pos 0 → ⊥
not_zero h = omega (arith, ints, h)

-- the numbers of the other three corners of the square at (i, j)
right : (g i j : ℕ) → vertex_number g i j + 1 ≡ vertex_number g (i + 1) j
right g i j = omega arith

up : (g i j : ℕ) → vertex_number g i j + g + 1 ≡ vertex_number g i (j + 1)
up g i j = omega arith

across : (g i j : ℕ) → vertex_number g i j + g + 2 ≡ vertex_number g (i + 1) (j + 1)
across g i j = omega arith

pub not_flat : (g : ℕ) (vertices : List MacroVertex) → AreSpots g vertices → (b : Bool) (i j : ℕ) → i < g → j < g → IsFlat vertices (half_of g b (vertex_number g i j)) → ⊥
not_flat g vertices spots true i j low below h =
    let here = spots i j (omega (arith, low)) (omega (arith, below)) in
    let beside = ap (point_at vertices) (right g i j) ∙ spots (i + 1) j (omega (arith, low)) (omega (arith, below)) in
    let beyond = ap (point_at vertices) (across g i j) ∙ spots (i + 1) (j + 1) (omega (arith, low)) (omega (arith, below)) in
    not_zero (sym (lower_area i j) ∙ sym (λ t. doubled_area (beyond t) (here t) (beside t)) ∙ h)
not_flat g vertices spots false i j low below h =
    let here = spots i j (omega (arith, low)) (omega (arith, below)) in
    let above = ap (point_at vertices) (up g i j) ∙ spots i (j + 1) (omega (arith, low)) (omega (arith, below)) in
    let beyond = ap (point_at vertices) (across g i j) ∙ spots (i + 1) (j + 1) (omega (arith, low)) (omega (arith, below)) in
    not_zero (sym (upper_area i j) ∙ sym (λ t. doubled_area (here t) (beyond t) (above t)) ∙ h)
