-- What the bytes of a macro file lead to: the macro file of an oriented text, or a line on err.
use Rattle.std.specs.Prelude.{◌≡◌, ℕ, ◌<◌, ◌≤◌, ◌⊎◌, List, length, codes, Option, Some, None, Result, Ok, Err}
use Rattle.macro_file.specs.Meaning.{meaning}
use Rattle.macro_file.specs.Text.{macro_of}
use Rattle.macro_file.specs.Written.{macro_bytes}
use Rattle.macro_file.specs.declared.text.MacroText.{MacroText}
use Rattle.macro_file.specs.declared.refusal.MacroRefusal.{MacroRefusal}
use Rattle.mesh_orient.specs.Orients.{IsOrientRefusal, IsOriented}
use Rattle.mesh_orient.specs.declared.refusal.OrientRefusal.{OrientRefusal}
use Rattle.mesh_orient.specs.declared.refusal.OrientRefusal.TheVariants.{Check, NotFound, Memory}
use Rattle.adapt_cli.specs.FaultTexts.{check_line, macro_line}

-- the line of a macro text that is not oriented
abbrev pub orient_line : OrientRefusal → Option (List ℕ)
orient_line (Check refusal) = check_line refusal
orient_line NotFound = Some (codes "orient: not found\n")
orient_line Memory = None

-- the greatest length of a macro file, in bytes
abbrev pub limit : ℕ
limit = 16777216

-- the line of a macro file that is too long
abbrev pub too_long_line : List ℕ
too_long_line = codes "adapt: macro: longer than 16777216 bytes\n"

-- the bytes are this macro text
pub record IsRead (bytes : List ℕ) (text : MacroText) : Type 0 where
  pub short : length bytes ≤ limit
  pub read : meaning bytes ≡ Ok (macro_of text)

-- the bytes are no macro text
pub record IsMisread (bytes line : List ℕ) : Type 0 where
  pub short : length bytes ≤ limit
  pub refusal : MacroRefusal
  pub read : meaning bytes ≡ Err refusal
  pub told : macro_line refusal ≡ Some line

-- the macro text is not oriented
pub record IsUnturned (text : MacroText) (line : List ℕ) : Type 0 where
  pub refusal : OrientRefusal
  pub cause : IsOrientRefusal text refusal
  pub told : orient_line refusal ≡ Some line

-- these bytes are the macro file of an oriented text
pub record IsTurnedFile (text : MacroText) (bytes : List ℕ) : Type 0 where
  pub made : MacroText
  pub oriented : IsOriented text made
  pub written : bytes ≡ macro_bytes (macro_of made)

-- what a macro text leads to: the bytes of a file, or a line
abbrev pub TextLeads : MacroText → Result (List ℕ) (List ℕ) → Type 0
TextLeads text (Ok written) = IsTurnedFile text written
TextLeads text (Err line) = IsUnturned text line

-- what the bytes of a file lead to
abbrev pub Leads : List ℕ → Result (List ℕ) (List ℕ) → Type 0
Leads bytes end =
    ((limit < length bytes) × (end ≡ Err too_long_line))
    ⊎ ((line : List ℕ) × IsMisread bytes line × (end ≡ Err line))
    ⊎ ((text : MacroText) × IsRead bytes text × TextLeads text end)
