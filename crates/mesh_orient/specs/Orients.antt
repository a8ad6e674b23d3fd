-- What holds of an oriented text, and when each refusal comes.
use Rattle.std.specs.Prelude.{◌≡◌, ℕ, ◌<◌, true, length}
use Rattle.macro_file.specs.declared.text.MacroText.{MacroText}
use Rattle.macro_file.specs.Text.{macro_of}
use Rattle.mesh_names.specs.Triangles.{size, grade_of}
use Rattle.mesh_names.specs.Partners.{Edge, Edge2}
use Rattle.mesh_names.specs.Validity.{Shares}
use Rattle.compat_check.specs.Meshes.{Mesh}
use Rattle.compat_check.specs.Checks.{AsksNoGrades, AtNoEdge, IsCheckRefusal, IsFaultless, IsMeshOf, NeighbourDiffers, bare, count_of, triples_of}
use Rattle.compat_check.specs.declared.refusal.CheckRefusal.{CheckRefusal}
use Rattle.compat_check.specs.declared.refusal.CheckRefusal.TheVariants as fault
use Rattle.mesh_orient.specs.Turns.{IsTurned}
use Rattle.mesh_orient.specs.declared.refusal.OrientRefusal.{OrientRefusal}
use Rattle.mesh_orient.specs.declared.refusal.OrientRefusal.TheVariants.{Check, NotFound, Memory}

-- the check refuses the text for nothing but want of memory
abbrev pub Passes : MacroText → Type 0
Passes text = (refusal : CheckRefusal) → IsCheckRefusal text refusal → refusal ≡ fault.Memory

-- two elements at the refinement edge of one of them have it both
abbrev pub IsPairing : MacroText → Type 0
IsPairing text = (r s : ℕ) (f : Edge) → r < count_of text → s < count_of text → (r ≡ s → ⊥) → Shares (bare (triples_of text)) r Edge2 s f → f ≡ Edge2

-- whatever mesh the text has, its grades are 0
abbrev pub HasNoGrades : MacroText → Type 0
HasNoGrades text = (mesh : Mesh) → IsMeshOf text mesh → (r : ℕ) → r < size mesh.shape → grade_of mesh.shape r ≡ 0

-- given neighbours are those that lie across the edges
abbrev pub TellsNeighbours : MacroText → Type 0
TellsNeighbours text = text.neighbours_given ≡ true → AtNoEdge (count_of text) (NeighbourDiffers text.elements.items (triples_of text))

-- the text is a pairing that passes the check with grades of 0
pub record IsPaired (text : MacroText) : Type 0 where
  pub passes : Passes text
  pub pairing : IsPairing text
  pub grades : HasNoGrades text

-- what an oriented text is of its text: it has each element turned, and passes the check; where the text passed already it says the same, and else it is paired
pub record IsOriented (text made : MacroText) : Type 0 where
  pub turned : IsTurned text made
  pub passes : Passes made
  pub kept : Passes text → macro_of made ≡ macro_of text
  pub paired : (Passes text → ⊥) → IsPaired made
  pub neighbours : TellsNeighbours made

-- when each refusal comes; want of memory and a pairing that was not found are free
abbrev pub IsOrientRefusal : MacroText → OrientRefusal → Type 0
IsOrientRefusal text (Check refusal) = IsCheckRefusal text refusal × AsksNoGrades refusal × (refusal ≡ fault.Memory → ⊥)
IsOrientRefusal text NotFound = IsFaultless text × (Passes text → ⊥)
IsOrientRefusal text Memory = Unit {0}
