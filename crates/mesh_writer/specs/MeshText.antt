-- The text of a mesh: the text of the macro mesh that the leaves form.
use Rattle.std.specs.Prelude.{◌≡◌, ◌<◌, ℕ, ℤ, true, List, ◌∷◌, ◌++◌, length, map, zip, All, Some}
use Rattle.std.specs.List.{AllZip}
use Rattle.mesh_io.specs.Decimals.{written_units}
use Rattle.macro_file.specs.Meaning.{Macro, Element as MacroElement, Vertex as MacroVertex}
use Rattle.macro_file.specs.Written.{macro_bytes}
use Rattle.mesh_names.specs.Names.{Name}
use Rattle.mesh_names.specs.Triangles.{Corner, IsCorner, Vertex, triangle}
use Rattle.compat_check.specs.Meshes.{Mesh, shape_of}
use Rattle.compat_check.specs.Points.{Point, labels, point}
use Rattle.dof_transfer.specs.Held.{Held, value_of}
use Rattle.dof_transfer.specs.VertexNames.{HasAt}
use Rattle.dof_transfer.specs.VertexValues.{VertexHeld}
use Rattle.mesh_writer.specs.Neighbours.{neighbours}
use Rattle.mesh_writer.specs.Numbering.{vertices}
use Rattle.mesh_writer.specs.Triples.{numbers}

-- the decimals of a point
abbrev pub coordinates_line : Point → List ℕ
coordinates_line p = written_units p.0 ++ 32 ∷ written_units p.1

-- a vertex with its value: where it lies, and the value
abbrev pub macro_vertex : Mesh → Vertex × ℤ → MacroVertex
macro_vertex mesh v = record { x = (point mesh.vertices v.0).0; y = (point mesh.vertices v.0).1; value = v.1 }

-- a leaf with its value: the numbers of its corners, its labels and neighbours, and the value
abbrev pub macro_element : Mesh → List Vertex → List Name → Name × ℤ → MacroElement
macro_element mesh written leaves n = record {
  corners = numbers (shape_of mesh) written n.0;
  labels = labels mesh n.0;
  neighbours = neighbours (shape_of mesh) leaves n.0;
  value = n.1;
}

-- the mesh that the leaves form, as a macro text, with the values of its written vertices and of the leaves
abbrev pub written_mesh : Mesh → List Name → List ℤ → List ℤ → Macro
written_mesh mesh leaves vertex_values element_values =
    let written = vertices (shape_of mesh) (length mesh.vertices) leaves in
    record {
      vertices = map (macro_vertex mesh) (zip written vertex_values);
      elements = map (macro_element mesh written leaves) (zip leaves element_values);
      labels_given = true;
      neighbours_given = true;
    }

-- the vertex has a value
abbrev pub HasSome : Mesh → VertexHeld → Vertex → Type 0
HasSome mesh held v = (x : ℤ) × HasAt mesh held v x

-- each macro vertex and each corner of a leaf has a value
pub record HaveValues (mesh : Mesh) (leaves : List Name) (held : VertexHeld) : Type 0 where
  pub macros : (i : ℕ) → i < length mesh.vertices → HasSome mesh held (Corner i)
  pub corners : All (λ n. (v : Vertex) → IsCorner v (triangle (shape_of mesh) n) → HasSome mesh held v) leaves

-- the text is that of the mesh that the leaves form, with the value that each written vertex and each leaf has
pub record IsMeshText (mesh : Mesh) (leaves : List Name) (vertex_held : VertexHeld) (element_held : Held) (text : List ℕ) : Type 0 where
  pub vertex_values : List ℤ
  pub of_vertices : AllZip (HasAt mesh vertex_held) (vertices (shape_of mesh) (length mesh.vertices) leaves) vertex_values
  pub element_values : List ℤ
  pub of_leaves : AllZip (λ n v. value_of element_held n ≡ Some v) leaves element_values
  pub is : text ≡ macro_bytes (written_mesh mesh leaves vertex_values element_values)
