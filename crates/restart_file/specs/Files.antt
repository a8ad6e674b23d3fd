-- Which bytes are a restart file, and what is kept in it.
use Rattle.std.specs.Prelude.{◌≡◌, ℕ, ◌≤◌, List, [], ◌∷◌, ◌++◌, length, codes, Ok}
use Rattle.std.specs.Fmt.{decimal}
use Rattle.mesh_names.specs.Names.{Name}
use Rattle.mesh_names.specs.Triangles.{size}
use Rattle.macro_file.specs.Meaning.{meaning}
use Rattle.macro_file.specs.Text.{macro_of}
use Rattle.macro_file.specs.declared.text.MacroText.{MacroText}
use Rattle.compat_check.specs.Meshes.{Mesh, shape_of}
use Rattle.compat_check.specs.Checks.{IsMeshOf, IsCheckRefusal}
use Rattle.compat_check.specs.declared.refusal.CheckRefusal.{CheckRefusal}
use Rattle.compat_check.specs.declared.refusal.CheckRefusal.TheVariants.{Memory as no_memory}
use Rattle.restart_file.specs.Kept.{IsKept}
use Rattle.restart_file.specs.Trees.{Tree, lines, members_from}

-- the greatest length of the macro part, in bytes
abbrev pub part_limit : ℕ
part_limit = 16777216

-- the first line says how many bytes the macro part has
abbrev pub head_line : ℕ → List ℕ
head_line m = codes "restart: " ++ decimal m ++ 10 ∷ []

-- the head line, the macro part, and the rest of a file
abbrev pub with_part : List ℕ → List ℕ → List ℕ
with_part part rest = head_line (length part) ++ (part ++ rest)

-- a whole file: after the macro part one line for each macro element
abbrev pub file_of : List ℕ → List Tree → List ℕ
file_of part trees = with_part part (lines trees)

-- the bytes are a macro file of this mesh, which the check refuses for nothing
pub record IsPart (part : List ℕ) (mesh : Mesh) : Type 0 where
  pub short : length part ≤ part_limit
  pub text : MacroText
  pub read : meaning part ≡ Ok (macro_of text)
  pub faultless : (refusal : CheckRefusal) → IsCheckRefusal text refusal → refusal ≡ no_memory
  pub checked : IsMeshOf text mesh

-- the bytes are the restart file of a macro part, its mesh, and the members of a conforming forest over it
pub record IsRestart (bytes part : List ℕ) (mesh : Mesh) (members : List Name) : Type 0 where
  pub is_part : IsPart part mesh
  pub trees : List Tree
  pub each : length trees ≡ size (shape_of mesh)
  pub bytes_are : bytes ≡ file_of part trees
  pub members_are : members ≡ members_from 0 trees
  pub kept : IsKept (shape_of mesh) members
