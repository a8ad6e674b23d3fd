-- The text of a mesh that was written, and the mesh that the check makes of it.
use Rattle.std.specs.Prelude.{◌≡◌, ◌<◌, ◌≤◌, ℕ, ℤ, pos, List, [], length}
use Rattle.macro_file.specs.declared.text.MacroText.{MacroText}
use Rattle.macro_file.specs.Text.{macro_of}
use Rattle.mesh_names.specs.Names.{Name}
use Rattle.mesh_names.specs.Triangles.{size}
use Rattle.mesh_names.specs.Forests.{Names, IsForest, IsListOf}
use Rattle.mesh_names.specs.Leaves.{leaves}
use Rattle.mesh_names.specs.Conformity.{HoldsPartners}
use Rattle.compat_check.specs.Checks.{IsMeshOf}
use Rattle.compat_check.specs.Faults.{doubled_area}
use Rattle.compat_check.specs.Meshes.{Mesh, IsChecked, across_in, shape_of}
use Rattle.compat_check.specs.Points.{AreTenths, labels, points}
use Rattle.compat_check.specs.Within.{corner}
use Rattle.mesh_writer.specs.MeshText.{written_mesh}
use Rattle.mesh_writer.specs.Numbering.{vertices}
use Rattle.written_meshes.specs.Renaming.{IsWrittenFrom, renamed}

-- the leaves of a conforming forest of a checked mesh, with a value for each written vertex and each leaf
pub record IsWriting (mesh : Mesh) (members : Names) (list : List Name) (vertex_values element_values : List ℤ) : Type 0 where
  pub checked : IsChecked mesh
  pub forest : IsForest (shape_of mesh) members
  pub partners : HoldsPartners (across_in mesh) members
  pub is_list : IsListOf (leaves (shape_of mesh) members) list
  pub of_vertices : length vertex_values ≡ length (vertices (shape_of mesh) (length mesh.vertices) list)
  pub of_leaves : length element_values ≡ length list

-- a text that says what these leaves form
pub record IsWrittenText (mesh : Mesh) (members : Names) (list : List Name) (vertex_values element_values : List ℤ) (text : MacroText) : Type 0 where
  pub writing : IsWriting mesh members list vertex_values element_values
  pub is : macro_of text ≡ written_mesh mesh list vertex_values element_values

-- the mesh that the check makes of such a text
pub record IsReadAgain (mesh : Mesh) (members : Names) (list : List Name) (vertex_values element_values : List ℤ) (other : Mesh) : Type 0 where
  pub text : MacroText
  pub written : IsWrittenText mesh members list vertex_values element_values text
  pub made : IsMeshOf text other

-- the law that it has the leaves as its elements
abbrev pub ReadAgainIsWritten : Type 0
ReadAgainIsWritten = (mesh : Mesh) (members : Names) (list : List Name) (vertex_values element_values : List ℤ) (other : Mesh) →
    IsReadAgain mesh members list vertex_values element_values other →
    IsWrittenFrom (shape_of mesh) (across_in mesh) (length mesh.vertices) members list (shape_of other)

-- the law that each of its names lies where the name lies that it stands for, and has its labels
abbrev pub PointsAndLabelsStand : Type 0
PointsAndLabelsStand = (mesh : Mesh) (members : Names) (list : List Name) (vertex_values element_values : List ℤ) (other : Mesh) →
    IsReadAgain mesh members list vertex_values element_values other →
    (n : Name) → n.0 < size (shape_of other) → (points other n ≡ points mesh (renamed list n)) × (labels other n ≡ labels mesh (renamed list n))

-- twice the area of a name
abbrev pub area : Mesh → Name → ℤ
area mesh n = doubled_area (corner (points mesh n) 0) (corner (points mesh n) 1) (corner (points mesh n) 2)

-- the law that where all macro coordinates have at most ten decimals and no macro element is flat, no name of at most 24 letters is flat
abbrev pub NoNameIsFlat : Type 0
NoNameIsFlat = (mesh : Mesh) → AreTenths mesh.vertices → ((r : ℕ) → r < size (shape_of mesh) → area mesh (r, []) ≡ pos 0 → ⊥) →
    (n : Name) → n.0 < size (shape_of mesh) → length n.1 ≤ 24 → area mesh n ≡ pos 0 → ⊥
