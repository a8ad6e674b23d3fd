-- Written vertices by their keys, and the leaves by their numbers.
use Rattle.std.specs.Prelude.{◌≡◌, ◌<◌, ℕ, zero, suc, ◌+◌, cond, true, List, [], ◌∷◌, ◌++◌, length, map, All, Option, Some, None}
use Rattle.std.specs.Option.{option_map}
use Rattle.mesh_names.specs.Names.{Name}
use Rattle.mesh_names.specs.Triangles.{Shape, Vertex, size, same, triangle}
use Rattle.mesh_names.specs.Patches.{vertex_of, owns}
use Rattle.mesh_names.specs.declared.patch.VertexKey.{VertexKey}
use Rattle.mesh_names.specs.declared.patch.VertexKey.TheVariants.{Macro, Patch}
use Rattle.compat_check.specs.Meshes.{Mesh, shape_of, across_in}
use Rattle.compat_check.specs.Points.{labels, point}
use Rattle.mesh_writer.specs.Numbering.{is_among, vertices}
use Rattle.mesh_writer.specs.Picks.{IsBelow, key_in}
use Rattle.mesh_writer.specs.Triples.{numbers}
use Rattle.mesh_writer.specs.declared.numbering.Numbers.{Numbers}

-- the keys of this many macro vertices
abbrev pub macro_keys : ℕ → List VertexKey
macro_keys zero = []
macro_keys (suc k) = macro_keys k ++ Macro k ∷ []

-- how many of these vertices stand before the vertex; none where it is not among them
abbrev pub place_of : Vertex → List Vertex → Option ℕ
place_of v [] = None
place_of v (u ∷ us) = cond (same v u) (Some 0) (option_map (λ k. k + 1) (place_of v us))

-- the key is that of a vertex of the mesh, and the only one of this vertex
abbrev pub IsKeyOf : Mesh → VertexKey → Type 0
IsKeyOf mesh (Macro i) = i < length mesh.vertices
IsKeyOf mesh (Patch n) = (owns (across_in mesh) n ≡ true) × (n.0 < size (shape_of mesh))

-- the vertices that the keys stand for
abbrev pub written_in : Shape → Numbers → List Vertex
written_in mesh numbers = map (vertex_of mesh) numbers.keys.items

-- the written vertices of a mesh
abbrev pub all_vertices : Mesh → List Name → List Vertex
all_vertices mesh leaves = vertices (shape_of mesh) (length mesh.vertices) leaves

-- the keys are of the mesh and in the slots of the known ones, and the points, the numbers of the corners and the labels are those of the written vertices and of the leaves
pub record AreNumbers (mesh : Mesh) (leaves : List Name) (n : Numbers) : Type 0 where
  pub keys : All (IsKeyOf mesh) n.keys.items
  pub below : All (IsBelow (length n.known.items)) n.slots.items
  pub slots : n.keys.items ≡ map (key_in n.known.items) n.slots.items
  pub points : n.points.items ≡ map (point mesh.vertices) (all_vertices mesh leaves)
  pub triples : n.triples.items ≡ map (numbers (shape_of mesh) (all_vertices mesh leaves)) leaves
  pub labels : n.labels.items ≡ map (labels mesh) leaves

-- the corners of the leaf are among the written vertices
pub record IsWritten (mesh : Shape) (written : List Vertex) (n : Name) : Type 0 where
  pub first : is_among (triangle mesh n).0 written ≡ true
  pub second : is_among (triangle mesh n).1 written ≡ true
  pub third : is_among (triangle mesh n).2 written ≡ true
