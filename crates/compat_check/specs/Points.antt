-- Where the corners of a name lie, and the labels of its edges.
use Rattle.std.specs.Prelude.{◌≡◌, ℕ, suc, ◌+◌, ◌*◌, ◌/◌, ◌<◌, ◌^◌, ℤ, pos, negsuc, ◌+ℤ◌, nat_abs, Bool, true, false, List, [], ◌∷◌, length}
use Rattle.macro_file.specs.declared.text.MacroVertex.{MacroVertex}
use Rattle.mesh_names.specs.Names.{Name}
use Rattle.mesh_names.specs.Triangles.{Triangle, Vertex, Corner, Mid, size, triangle, midpoint}
use Rattle.mesh_names.specs.declared.patch.VertexKey.{VertexKey}
use Rattle.mesh_names.specs.declared.patch.VertexKey.TheVariants.{Macro, Patch}
use Rattle.compat_check.specs.Faults.{point_at}
use Rattle.compat_check.specs.Meshes.{Mesh, label_of, shape_of}

-- x and y in fine units
abbrev pub Point : Type 0
Point = ℤ × ℤ

-- the half of a number, rounded down
abbrev pub half : ℤ → ℤ
half (pos n) = pos (n / 2)
half (negsuc n) = negsuc (n / 2)

-- the point between two, each coordinate rounded down
abbrev pub between : Point → Point → Point
between p q = (half (p.0 +ℤ q.0), half (p.1 +ℤ q.1))

-- where a vertex lies
abbrev pub point : List MacroVertex → Vertex → Point
point vertices (Corner i) = point_at vertices i
point vertices (Mid a b) = between (point vertices a) (point vertices b)

-- where the three corners of a name lie
abbrev pub points : Mesh → Name → List Point
points mesh n = let t = triangle (shape_of mesh) n in point mesh.vertices t.0 ∷ point mesh.vertices t.1 ∷ point mesh.vertices t.2 ∷ []

-- the key is that of a vertex of the mesh
abbrev pub IsVertexOf : Mesh → VertexKey → Type 0
IsVertexOf mesh (Macro i) = i < length mesh.vertices
IsVertexOf mesh (Patch n) = n.0 < size (shape_of mesh)

-- the labels of edges 0, 1 and 2
abbrev pub Labels : Type 0
Labels = ℤ × ℤ × ℤ

-- a child keeps the labels of its parent's edges that it has a part of, and the edge between the children has label 0
abbrev pub child_labels : Labels → Bool → Labels
child_labels l false = (l.2, pos 0, l.1)
child_labels l true = (pos 0, l.2, l.0)

-- the labels below these that a word, last letter first, leads to
abbrev pub labels_below : Labels → List Bool → Labels
labels_below top [] = top
labels_below top (b ∷ w) = child_labels (labels_below top w) b

-- the labels of a name
abbrev pub labels : Mesh → Name → List ℤ
labels mesh n = let l = labels_below (label_of mesh n.0 0, label_of mesh n.0 1, label_of mesh n.0 2) n.1 in l.0 ∷ l.1 ∷ l.2 ∷ []

-- the size of z is a whole number of times the unit
abbrev pub IsMultiple : ℕ → ℤ → Type 0
IsMultiple unit z = (k : ℕ) × (nat_abs z ≡ k * unit)

-- both coordinates are
abbrev pub LiesOn : ℕ → Point → Type 0
LiesOn unit p = IsMultiple unit p.0 × IsMultiple unit p.1

-- the point lies halfway between two, and no rounding took anything away
abbrev pub IsHalfway : Point → Point → Point → Type 0
IsHalfway p q m = (m.0 +ℤ m.0 ≡ p.0 +ℤ q.0) × (m.1 +ℤ m.1 ≡ p.1 +ℤ q.1)

-- the coordinates of all vertices have at most ten decimals
abbrev pub AreTenths : List MacroVertex → Type 0
AreTenths vertices = (i : ℕ) → LiesOn 4096 (point_at vertices i)

-- the corners of a name of 2j letters lie on multiples of 2^(12-j) fine units; one letter more, and the newest corner lies on multiples of half of that; the midpoint of a name of fewer than 24 letters is exact
pub record IsExact (vertices : List MacroVertex) (n : Name) (t : Triangle) : Type 0 where
  pub even : (j k : ℕ) → j + k ≡ 12 → length n.1 ≡ 2 * j → LiesOn (2 ^ k) (point vertices t.0) × LiesOn (2 ^ k) (point vertices t.1) × LiesOn (2 ^ k) (point vertices t.2)
  pub odd : (j k : ℕ) → j + k ≡ 11 → length n.1 ≡ 2 * j + 1 → LiesOn (2 ^ suc k) (point vertices t.0) × LiesOn (2 ^ suc k) (point vertices t.1) × LiesOn (2 ^ k) (point vertices t.2)
  pub midpoint : length n.1 < 24 → IsHalfway (point vertices t.0) (point vertices t.1) (point vertices (midpoint t))

-- where all macro coordinates have at most ten decimals, no rounding takes anything away at any level up to 24
abbrev pub MidpointsExact : Type 0
MidpointsExact = (mesh : Mesh) → AreTenths mesh.vertices → (n : Name) → IsExact mesh.vertices n (triangle (shape_of mesh) n)
