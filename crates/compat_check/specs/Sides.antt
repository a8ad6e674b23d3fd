-- The table of neighbours that a mesh keeps, three for each element.
use Rattle.std.specs.Prelude.{◌≡◌, ℕ, ◌+◌, ◌*◌, ◌^◌, ◌<◌, Bool, All, List, length, Option, Some, None, slice_index_or}
use Rattle.macro_file.specs.Limits.{AtMost}
use Rattle.mesh_names.specs.Triangles.{size}
use Rattle.mesh_names.specs.Partners.{Edge, Across}
use Rattle.compat_check.specs.Meshes.{Mesh, edge_of, edge_number, across_in, IsChecked}
use Rattle.compat_check.specs.declared.mesh.Side.{Side}

abbrev pub side_told : Option Side → Option (ℕ × Edge × Bool)
side_told None = None
side_told (Some s) = Some (s.element, edge_of s.edge, s.turned)

-- what the table tells of an edge
abbrev pub told_in : List (Option Side) → Across
told_in sides r e = side_told (slice_index_or sides (r * 3 + edge_number e) None)

-- the table tells what lies across each edge of the mesh, and the values are within their range
pub record IsStored (mesh : Mesh) (sides : List (Option Side)) : Type 0 where
  pub checked : IsChecked mesh
  pub each : length mesh.shape.grades ≡ size mesh.shape
  pub three : length sides ≡ size mesh.shape * 3
  pub labels : length mesh.labels ≡ size mesh.shape
  pub values : length mesh.values ≡ size mesh.shape
  pub sized : All (AtMost (2 ^ 55)) mesh.values
  pub told : (r : ℕ) (e : Edge) → r < size mesh.shape → told_in sides r e ≡ across_in mesh r e
