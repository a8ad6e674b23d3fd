-- Macro meshes, vertices, triangles and levels.
use Rattle.std.specs.Prelude.{◌≡◌, ℕ, ◌+◌, Bool, true, false, cond, eqb, ltb, ◌&&◌, ◌||◌, ◌⊎◌, List, [], ◌∷◌, length, slice_index_or}
use Rattle.mesh_names.specs.Names.{Name}

-- a vertex is a macro vertex or the middle of an unordered pair; `Mid` alone is an ordered pair
pub data Vertex : Type 0 where
  Corner : ℕ → Vertex
  Mid : Vertex → Vertex → Vertex

-- whether two vertices are equal
abbrev pub same : Vertex → Vertex → Bool
same (Corner i) (Corner j) = eqb i j
same (Corner i) (Mid c d) = false
same (Mid a b) (Corner j) = false
same (Mid a b) (Mid c d) = same a c && same b d

-- a strict order by which a pair is put in one order
abbrev pub before : Vertex → Vertex → Bool
before (Corner i) (Corner j) = ltb i j
before (Corner i) (Mid c d) = true
before (Mid a b) (Corner j) = false
before (Mid a b) (Mid c d) = before a c || (same a c && before b d)

-- the middle of the unordered pair {a, b}
abbrev pub middle : Vertex → Vertex → Vertex
middle a b = cond (before b a) (Mid b a) (Mid a b)

-- local vertices 0, 1 and 2
abbrev pub Triangle : Type 0
Triangle = Vertex × Vertex × Vertex

-- the triangle (v0, v1, v2) is bisected at the middle m of v0 and v1: child 0 is (v2, v0, m), child 1 is (v1, v2, m)
abbrev pub child_triangle : Triangle → Bool → Triangle
child_triangle t false = (t.2, t.0, middle t.0 t.1)
child_triangle t true = (t.1, t.2, middle t.0 t.1)

-- a macro element's triple of vertex numbers
abbrev pub Triple : Type 0
Triple = List ℕ

-- a macro mesh: for each element its triple and its grade
pub record Shape : Type 0 where
  pub triples : List Triple
  pub grades : List ℕ

-- the number of macro elements
abbrev pub size : Shape → ℕ
size mesh = length mesh.triples

-- the grade of a macro element
abbrev pub grade_of : Shape → ℕ → ℕ
grade_of mesh r = slice_index_or mesh.grades r 0

-- the level of a name: the grade of its macro element plus the number of its letters
abbrev pub level : Shape → Name → ℕ
level mesh n = grade_of mesh n.0 + length n.1

-- the triple of a macro element
abbrev pub triple_of : Shape → ℕ → Triple
triple_of mesh r = slice_index_or mesh.triples r []

-- the vertex number at a place of a triple
abbrev pub corner_of : Triple → ℕ → ℕ
corner_of t k = slice_index_or t k 0

-- the triangle of a triple
abbrev pub top_triangle : Triple → Triangle
top_triangle t = (Corner (corner_of t 0), Corner (corner_of t 1), Corner (corner_of t 2))

-- the triangle of a macro element
abbrev pub top_of : Shape → ℕ → Triangle
top_of mesh r = top_triangle (triple_of mesh r)

-- the triangle below `top` that a word, last letter first, leads to
abbrev pub below : Triangle → List Bool → Triangle
below top [] = top
below top (b ∷ w) = child_triangle (below top w) b

-- the triangle of a name
abbrev pub triangle : Shape → Name → Triangle
triangle mesh n = below (top_of mesh n.0) n.1

-- the middle of the refinement edge, which joins local vertices 0 and 1
abbrev pub midpoint : Triangle → Vertex
midpoint t = middle t.0 t.1

-- the vertex is one of the triangle's three
abbrev pub IsCorner : Vertex → Triangle → Type 0
IsCorner v t = (v ≡ t.0) ⊎ (v ≡ t.1) ⊎ (v ≡ t.2)
