-- What holds of a mended text.
use Rattle.std.specs.Prelude.{◌≡◌, ℕ, ◌+◌, ◌*◌, ◌<◌, ℤ, ◌+ℤ◌}
use Rattle.macro_file.specs.declared.text.MacroText.{MacroText}
use Rattle.macro_file.specs.Text.{macro_of}
use Rattle.mesh_names.specs.Triangles.{size, grade_of, corner_of}
use Rattle.compat_check.specs.Meshes.{Mesh}
use Rattle.compat_check.specs.Faults.{doubled_area, point_at, triple_in}
use Rattle.compat_check.specs.Checks.{IsCheckRefusal, IsMeshOf, count_of, triples_of}
use Rattle.compat_check.specs.declared.refusal.CheckRefusal.{CheckRefusal}
use Rattle.compat_check.specs.declared.refusal.CheckRefusal.TheVariants.{Memory}
use Rattle.mesh_mend.specs.Mended.{mended, value_in}
use Rattle.mesh_mend.specs.Refusals.{IsMendable}

-- the check refuses the text for nothing but want of memory
abbrev pub Passes : MacroText → Type 0
Passes text = (refusal : CheckRefusal) → IsCheckRefusal text refusal → refusal ≡ Memory

-- whatever mesh the text has, its grades are 0
abbrev pub HasNoGrades : MacroText → Type 0
HasNoGrades text = (mesh : Mesh) → IsMeshOf text mesh → (r : ℕ) → r < size mesh.shape → grade_of mesh.shape r ≡ 0

-- twice the area of an element of a text
abbrev pub area_in : MacroText → ℕ → ℤ
area_in text r = doubled_area (point_at text.vertices.items (corner_of (triple_in (triples_of text) r) 0)) (point_at text.vertices.items (corner_of (triple_in (triples_of text) r) 1)) (point_at text.vertices.items (corner_of (triple_in (triples_of text) r) 2))

-- the sum of a number over the three pieces of an element
abbrev pub sum_of_pieces : (ℕ → ℤ) → ℕ → ℤ
sum_of_pieces number r = (number (r * 3) +ℤ number (r * 3 + 1)) +ℤ number (r * 3 + 2)

-- the areas of an element's pieces sum to its own, and so do their values
pub record KeepsSums (text made : MacroText) : Type 0 where
  pub areas : (r : ℕ) → r < count_of text → sum_of_pieces (area_in made) r ≡ area_in text r
  pub values : (r : ℕ) → r < count_of text → sum_of_pieces (value_in made) r ≡ value_in text r

-- the laws of the mended text
abbrev pub MendedPasses : Type 0
MendedPasses = (text made : MacroText) → IsMendable text → macro_of made ≡ mended text → Passes made

abbrev pub GradesAreZero : Type 0
GradesAreZero = (text made : MacroText) → IsMendable text → macro_of made ≡ mended text → HasNoGrades made

abbrev pub PiecesSum : Type 0
PiecesSum = (text made : MacroText) → IsMendable text → macro_of made ≡ mended text → KeepsSums text made
