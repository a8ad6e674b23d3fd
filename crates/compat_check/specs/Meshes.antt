-- A checked macro mesh, as contracts see it.
use Rattle.std.specs.Prelude.{ℕ, zero, suc, ◌<◌, ◌≤◌, ℤ, pos, List, [], length, slice_index_or}
use Rattle.macro_file.specs.declared.MacroVertex.{MacroVertex}
use Rattle.mesh_names.specs.Names.{Name}
use Rattle.mesh_names.specs.Triangles.{Shape, size, grade_of, triple_of, corner_of}
use Rattle.mesh_names.specs.Partners.{Edge, Edge0, Edge1, Edge2, Across, Tells, edge_word}
use Rattle.mesh_names.specs.Validity.{IsValid, IsGraded, across_of}

-- the edge with this number
abbrev pub edge_of : ℕ → Edge
edge_of zero = Edge0
edge_of (suc zero) = Edge1
edge_of (suc (suc k)) = Edge2

-- the number of an edge
abbrev pub edge_number : Edge → ℕ
edge_number Edge0 = 0
edge_number Edge1 = 1
edge_number Edge2 = 2

-- a macro mesh: its vertices, the triples and grades of its elements, and each element's three labels and its value
pub record Mesh : Type 0 where
  pub vertices : List MacroVertex
  pub shape : Shape
  pub labels : List (List ℤ)
  pub values : List ℤ

-- the triples and the grades
abbrev pub shape_of : Mesh → Shape
shape_of mesh = mesh.shape

-- what lies across each edge
abbrev pub across_in : Mesh → Across
across_in mesh = across_of mesh.shape

-- what is true of every mesh that was checked
pub record IsChecked (mesh : Mesh) : Type 0 where
  pub valid : IsValid mesh.shape
  pub graded : IsGraded mesh.shape
  pub tells : Tells mesh.shape (across_in mesh)
  pub low : (r : ℕ) → r < size mesh.shape → grade_of mesh.shape r ≤ 24
  pub some : 0 < size mesh.shape
  pub few : size mesh.shape ≤ 65535
  pub few_vertices : length mesh.vertices ≤ 65535
  pub corners : (r k : ℕ) → r < size mesh.shape → k < 3 → corner_of (triple_of mesh.shape r) k < length mesh.vertices

-- the label of an edge of an element
abbrev pub label_of : Mesh → ℕ → ℕ → ℤ
label_of mesh r k = slice_index_or (slice_index_or mesh.labels r []) k (pos 0)

-- the name whose refinement edge is this edge of a macro element
abbrev pub edge_name : ℕ → ℕ → Name
edge_name r k = (r, edge_word (edge_of k))
