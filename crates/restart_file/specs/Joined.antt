-- The restart file of the overlay of two others.
use Rattle.std.specs.Prelude.{ℕ, List}
use Rattle.mesh_names.specs.Names.{Name}
use Rattle.mesh_names.specs.LeastForest.{IsLeast}
use Rattle.compat_check.specs.Meshes.{Mesh, shape_of}
use Rattle.restart_file.specs.Kept.{IsKept, set_of}
use Rattle.restart_file.specs.Files.{IsPart, IsRestart}

-- a macro file, its mesh, and the members of a conforming forest over it
pub record KeepsForest (part : List ℕ) (mesh : Mesh) (members : List Name) : Type 0 where
  pub is_part : IsPart part mesh
  pub kept : IsKept (shape_of mesh) members

-- the bytes are the restart file of the macro part and the least conforming forest that holds both
pub record IsJoined (bytes part : List ℕ) (mesh : Mesh) (first second : List Name) : Type 0 where
  pub members : List Name
  pub file : IsRestart bytes part mesh members
  pub least : IsLeast (shape_of mesh) (set_of first) (set_of second) (set_of members)
