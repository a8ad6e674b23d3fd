-- Laws on restart files over the definitions alone.
use Rattle.std.specs.Prelude.{◌≡◌, ℕ, ◌<◌, List, map}
use Rattle.mesh_names.specs.Names.{Name}
use Rattle.mesh_names.specs.Triangles.{size}
use Rattle.macro_file.specs.Text.{vertex_of}
use Rattle.compat_check.specs.Meshes.{Mesh, label_of, shape_of}
use Rattle.restart_file.specs.Kept.{IsKept}
use Rattle.restart_file.specs.Files.{IsPart, IsRestart}

-- two meshes have the same vertices, elements, grades, labels and values
pub record IsSameMesh (m n : Mesh) : Type 0 where
  pub vertices : map vertex_of m.vertices ≡ map vertex_of n.vertices
  pub shape : shape_of m ≡ shape_of n
  pub labels : (r k : ℕ) → r < size (shape_of m) → k < 3 → label_of m r k ≡ label_of n r k
  pub values : m.values ≡ n.values

-- the law that the bytes of a macro file are those of one mesh
abbrev pub PartsAreOne : Type 0
PartsAreOne = (part : List ℕ) (m n : Mesh) → IsPart part m → IsPart part n → IsSameMesh m n

-- the law that a restart file keeps one macro file, one mesh and one forest: so what was written is read as the same
abbrev pub RestartsAreOne : Type 0
RestartsAreOne = (bytes part other : List ℕ) (m n : Mesh) (members names : List Name) → IsRestart bytes part m members → IsRestart bytes other n names → (part ≡ other) × IsSameMesh m n × (members ≡ names)

-- the law that members which are kept over the mesh of a macro file are kept over it, however the file was read
abbrev pub KeptOverPart : Type 0
KeptOverPart = (part : List ℕ) (m n : Mesh) (members : List Name) → IsPart part m → IsPart part n → IsKept (shape_of m) members → IsKept (shape_of n) members
