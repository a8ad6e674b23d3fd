-- A written mesh is read again and accepted.
use Rattle.std.specs.Prelude.{◌≡◌, ◌+◌, ◌<◌, ◌≤◌, ℕ, ℤ, pos, List, [], All, length, Ok}
use Rattle.macro_file.specs.declared.keyword.Keyword.TheVariants.{ElementValues, VertexValues}
use Rattle.macro_file.specs.declared.text.MacroText.{MacroText}
use Rattle.macro_file.specs.Limits.{InRange}
use Rattle.macro_file.specs.Meaning.{meaning}
use Rattle.macro_file.specs.Text.{macro_of}
use Rattle.macro_file.specs.Written.{macro_bytes}
use Rattle.mesh_names.specs.Names.{Name}
use Rattle.mesh_names.specs.Triangles.{grade_of, level, size}
use Rattle.mesh_names.specs.Forests.{Names}
use Rattle.mesh_names.specs.Partners.{Edge}
use Rattle.mesh_names.specs.Validity.{Shares}
use Rattle.compat_check.specs.Checks.{IsCheckRefusal, IsMeshOf}
use Rattle.compat_check.specs.Meshes.{Mesh, shape_of}
use Rattle.compat_check.specs.Points.{AreTenths}
use Rattle.compat_check.specs.declared.refusal.CheckRefusal.{CheckRefusal}
use Rattle.compat_check.specs.declared.refusal.CheckRefusal.TheVariants.{Memory}
use Rattle.mesh_writer.specs.MeshText.{written_mesh}
use Rattle.mesh_writer.specs.Numbering.{vertices}
use Rattle.written_meshes.specs.Passing.{NoLeafIsFlat}
use Rattle.written_meshes.specs.Renaming.{leaf_at}
use Rattle.written_meshes.specs.WrittenTexts.{IsWriting, area}

-- the mesh is that of a macro text, and what is written is within the limits of one:
-- at most 65,535 vertices and leaves, and values that a text can hold
pub record FitsText (mesh : Mesh) (list : List Name) (vertex_values element_values : List ℤ) : Type 0 where
  pub source : MacroText
  pub of_source : IsMeshOf source mesh
  pub few_vertices : length (vertices (shape_of mesh) (length mesh.vertices) list) ≤ 65535
  pub few_leaves : length list ≤ 65535
  pub vertex_range : All (InRange VertexValues) vertex_values
  pub element_range : All (InRange ElementValues) element_values

-- the law that the bytes of a mesh that is written are read as the same text
abbrev pub WrittenMeshIsRead : Type 0
WrittenMeshIsRead = (mesh : Mesh) (members : Names) (list : List Name) (vertex_values element_values : List ℤ) →
    IsWriting mesh members list vertex_values element_values → FitsText mesh list vertex_values element_values →
    meaning (macro_bytes (written_mesh mesh list vertex_values element_values)) ≡ Ok (written_mesh mesh list vertex_values element_values)

-- all macro coordinates have at most ten decimals, and no macro element is flat
pub record IsThick (mesh : Mesh) : Type 0 where
  pub tenths : AreTenths mesh.vertices
  pub thick : (r : ℕ) → r < size (shape_of mesh) → area mesh (r, []) ≡ pos 0 → ⊥

-- across each inner edge of a mesh, grades differ as the levels of the leaves do that are its elements
abbrev pub GradesDifferAsLevels : Mesh → List Name → Mesh → Type 0
GradesDifferAsLevels mesh list other = (r s : ℕ) (e f : Edge) →
    r < size (shape_of other) → s < size (shape_of other) → Shares (shape_of other) r e s f →
    level (shape_of mesh) (leaf_at list r) + grade_of (shape_of other) s ≡ level (shape_of mesh) (leaf_at list s) + grade_of (shape_of other) r

-- the check refuses a text only where memory runs out, and in the mesh that it makes grades differ as levels do
pub record IsAccepted (mesh : Mesh) (list : List Name) (text : MacroText) : Type 0 where
  pub passes : (refusal : CheckRefusal) → IsCheckRefusal text refusal → refusal ≡ Memory
  pub grades : (other : Mesh) → IsMeshOf text other → GradesDifferAsLevels mesh list other

-- the law that a written mesh within the limits, in which no leaf is flat, is read as what was written, and accepted;
-- and that no leaf is flat where no macro element is and no macro coordinate has more than ten decimals
abbrev pub WrittenAccepted : Type 0
WrittenAccepted = (mesh : Mesh) (members : Names) (list : List Name) (vertex_values element_values : List ℤ) →
    IsWriting mesh members list vertex_values element_values →
    (IsThick mesh → NoLeafIsFlat mesh list)
    × (FitsText mesh list vertex_values element_values → NoLeafIsFlat mesh list →
    (meaning (macro_bytes (written_mesh mesh list vertex_values element_values)) ≡ Ok (written_mesh mesh list vertex_values element_values))
    × ((text : MacroText) → macro_of text ≡ written_mesh mesh list vertex_values element_values → IsAccepted mesh list text))
