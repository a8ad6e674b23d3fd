-- The corners of a name as keys of vertices.
use Rattle.std.specs.Prelude.{◌≡◌, ℕ, ◌<◌, List, slice_index_or}
use Rattle.mesh_names.specs.Names.{Name}
use Rattle.mesh_names.specs.Triangles.{Shape, Triangle, Vertex, size, triangle}
use Rattle.mesh_names.specs.Patches.{vertex_of, IsKey}
use Rattle.mesh_names.specs.declared.patch.VertexKey.{VertexKey}
use Rattle.mesh_names.specs.declared.patch.VertexKey.TheVariants.{Macro, Patch}
use Rattle.compat_check.specs.Meshes.{Mesh, shape_of, across_in}

abbrev pub key_at : List VertexKey → ℕ → VertexKey
key_at keys k = slice_index_or keys k (Macro 0)

-- the triangle that three keys stand for
abbrev pub triangle_by : Shape → List VertexKey → Triangle
triangle_by mesh keys = (vertex_of mesh (key_at keys 0), vertex_of mesh (key_at keys 1), vertex_of mesh (key_at keys 2))

-- a patch is named by an element of the mesh
abbrev pub IsOfMesh : Shape → VertexKey → Type 0
IsOfMesh mesh (Macro i) = Unit {0}
IsOfMesh mesh (Patch n) = n.0 < size mesh

-- the keys stand for the triangle of the name, each the only key of its vertex
pub record AreCorners (mesh : Mesh) (n : Name) (keys : List VertexKey) : Type 0 where
  pub stand : triangle_by (shape_of mesh) keys ≡ triangle (shape_of mesh) n
  pub keys_are : (k : ℕ) → k < 3 → IsKey (across_in mesh) (key_at keys k)
  pub of_mesh : (k : ℕ) → k < 3 → IsOfMesh (shape_of mesh) (key_at keys k)

-- the key stands for the vertex, and is its only key
pub record IsKeyOf (mesh : Mesh) (v : Vertex) (key : VertexKey) : Type 0 where
  pub stands : vertex_of (shape_of mesh) key ≡ v
  pub is : IsKey (across_in mesh) key
  pub of_mesh : IsOfMesh (shape_of mesh) key
