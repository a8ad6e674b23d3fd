-- The files of a command: what each of them is accepted as, and with which line it is refused.
use Rattle.std.specs.Prelude.{◌≡◌, ℕ, ◌<◌, ◌≤◌, ◌⊎◌, List, length, codes, Some, Ok, Err}
use Rattle.macro_file.specs.Meaning.{meaning}
use Rattle.macro_file.specs.Text.{macro_of}
use Rattle.macro_file.specs.declared.text.MacroText.{MacroText}
use Rattle.macro_file.specs.declared.refusal.MacroRefusal.{MacroRefusal}
use Rattle.compat_check.specs.Meshes.{Mesh}
use Rattle.compat_check.specs.Checks.{IsMeshOf, IsCheckRefusal}
use Rattle.compat_check.specs.declared.refusal.CheckRefusal.{CheckRefusal}
use Rattle.compat_check.specs.declared.refusal.CheckRefusal.TheVariants.{Memory as no_memory}
use Rattle.mark_file.specs.Meaning.{Round, marks_meaning}
use Rattle.mark_file.specs.declared.refusal.MarkRefusal.{MarkRefusal}
use Rattle.adapt_cli.specs.FaultTexts.{macro_line, check_line, marks_line}

-- the greatest length of each file, in bytes
abbrev pub macro_limit : ℕ
macro_limit = 16777216

abbrev pub marks_limit : ℕ
marks_limit = 67108864

-- the bytes are too long
pub record IsTooLong (limit : ℕ) (what : List ℕ) (bytes line : List ℕ) : Type 0 where
  pub long : limit < length bytes
  pub told : line ≡ what

-- the bytes are no macro text
pub record IsMisread (bytes line : List ℕ) : Type 0 where
  pub short : length bytes ≤ macro_limit
  pub refusal : MacroRefusal
  pub read : meaning bytes ≡ Err refusal
  pub told : macro_line refusal ≡ Some line

-- the bytes are refused as a macro text, with this line
abbrev pub RefusesText : List ℕ → List ℕ → Type 0
RefusesText bytes line = IsTooLong macro_limit (codes "adapt: macro: longer than 16777216 bytes\n") bytes line ⊎ IsMisread bytes line

-- the bytes are this macro text
pub record AcceptsText (bytes : List ℕ) (text : MacroText) : Type 0 where
  pub short : length bytes ≤ macro_limit
  pub read : meaning bytes ≡ Ok (macro_of text)

-- the check refuses the macro text for nothing, and this is its mesh
pub record IsChecked (text : MacroText) (mesh : Mesh) : Type 0 where
  pub faultless : (refusal : CheckRefusal) → IsCheckRefusal text refusal → refusal ≡ no_memory
  pub is_mesh : IsMeshOf text mesh

-- the check refuses the macro text, and has this line for it
abbrev pub TellsCheck : MacroText → List ℕ → Type 0
TellsCheck text line = (refusal : CheckRefusal) × IsCheckRefusal text refusal × (check_line refusal ≡ Some line)

-- the bytes are a macro file of this mesh, on which bisection is well defined
abbrev pub AcceptsMacro : List ℕ → Mesh → Type 0
AcceptsMacro bytes mesh = (text : MacroText) × AcceptsText bytes text × IsChecked text mesh

-- the bytes are refused as a macro file, with this line
abbrev pub RefusesMacro : List ℕ → List ℕ → Type 0
RefusesMacro bytes line = RefusesText bytes line ⊎ ((text : MacroText) × AcceptsText bytes text × TellsCheck text line)

-- the bytes are a marks file of these rounds
pub record AcceptsMarks (bytes : List ℕ) (rounds : List Round) : Type 0 where
  pub short : length bytes ≤ marks_limit
  pub read : marks_meaning bytes ≡ Ok rounds

-- the bytes are no marks
pub record IsUnmarked (bytes line : List ℕ) : Type 0 where
  pub short : length bytes ≤ marks_limit
  pub refusal : MarkRefusal
  pub read : marks_meaning bytes ≡ Err refusal
  pub told : marks_line refusal ≡ Some line

-- the bytes are refused as a marks file, with this line
abbrev pub RefusesMarks : List ℕ → List ℕ → Type 0
RefusesMarks bytes line = IsTooLong marks_limit (codes "adapt: marks: longer than 67108864 bytes\n") bytes line ⊎ IsUnmarked bytes line
