-- The grid of G: G squares by G, each cut into two triangles along its diagonal.
use Rattle.std.specs.Prelude.{◌≡◌, ℕ, ◌+◌, ◌*◌, ◌/◌, ◌%◌, ◌<◌, ◌≤◌, ℤ, pos, false, cond, eqb, List, [], ◌∷◌, length, map, slice_get, Some}
use Rattle.std.specs.List.{range_with_len}
use Rattle.macro_file.specs.Meaning.{Vertex, Element, Macro}

-- one unit of length in fine units
abbrev pub unit : ℕ
unit = 40960000000000

-- the number of the vertex at (i, j)
abbrev pub vertex_number : ℕ → ℕ → ℕ → ℕ
vertex_number g i j = j * (g + 1) + i

-- the number of the square whose vertex of least number is at (i, j)
abbrev pub square_number : ℕ → ℕ → ℕ → ℕ
square_number g i j = j * g + i

-- the vertex at (i, j): its own number is its value
abbrev pub vertex_on : ℕ → ℕ → ℕ → Vertex
vertex_on g i j = record { x = pos (i * unit); y = pos (j * unit); value = pos (vertex_number g i j) }

abbrev pub zeros : List ℤ
zeros = pos 0 ∷ pos 0 ∷ pos 0 ∷ []

-- an element of these corners, without labels and neighbours: its own number is its value
abbrev pub element_of : List ℕ → ℕ → Element
element_of corners n = record { corners = corners; labels = zeros; neighbours = zeros; value = pos n }

-- the two triangles of the square whose vertex of least number is a: their refinement edges are its diagonal
abbrev pub lower : ℕ → ℕ → List ℕ
lower g a = (a + g + 2) ∷ a ∷ (a + 1) ∷ []

abbrev pub upper : ℕ → ℕ → List ℕ
upper g a = a ∷ (a + g + 2) ∷ (a + g + 1) ∷ []

-- the vertex of least number of a square
abbrev pub first_of : ℕ → ℕ → ℕ
first_of g k = vertex_number g (k % g) (k / g)

-- the vertex of this number
abbrev pub vertex_at : ℕ → ℕ → Vertex
vertex_at g n = vertex_on g (n % (g + 1)) (n / (g + 1))

-- the corners of the element of this number: each square has an even one and the odd one after it
abbrev pub corners_at : ℕ → ℕ → List ℕ
corners_at g n = cond (eqb (n % 2) 0) (lower g (first_of g (n / 2))) (upper g (first_of g (n / 2)))

abbrev pub element_at : ℕ → ℕ → Element
element_at g n = element_of (corners_at g n) n

-- the grid of g, by numbers
abbrev pub grid : ℕ → Macro
grid g = record {
  vertices = map (vertex_at g) (range_with_len 0 ((g + 1) * (g + 1)));
  elements = map (element_at g) (range_with_len 0 (2 * (g * g)));
  labels_given = false;
  neighbours_given = false;
}

-- the law that says the same by places: what stands at (i, j)
pub record IsGrid (g : ℕ) (m : Macro) : Type 0 where
  pub vertex_count : length m.vertices ≡ (g + 1) * (g + 1)
  pub element_count : length m.elements ≡ 2 * (g * g)
  pub vertices : (i j : ℕ) → i ≤ g → j ≤ g → slice_get m.vertices (vertex_number g i j) ≡ Some (vertex_on g i j)
  pub evens : (i j : ℕ) → i < g → j < g → slice_get m.elements (2 * square_number g i j) ≡ Some (element_of (lower g (vertex_number g i j)) (2 * square_number g i j))
  pub odds : (i j : ℕ) → i < g → j < g → slice_get m.elements (2 * square_number g i j + 1) ≡ Some (element_of (upper g (vertex_number g i j)) (2 * square_number g i j + 1))
  pub no_labels : m.labels_given ≡ false
  pub no_neighbours : m.neighbours_given ≡ false

abbrev pub GridsAreGrids : Type 0
GridsAreGrids = (g : ℕ) → IsGrid g (grid g)
