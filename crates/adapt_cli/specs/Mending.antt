-- What mending leads to: the macro file of the mended mesh, or why there is none.
use Rattle.std.specs.Prelude.{◌≡◌, ℕ, List, [], ◌∷◌, codes, Option, Some, None, Ok, Err}
use Rattle.std.specs.Fmt.{decimal}
use Rattle.mesh_io.specs.Shelves.{Files}
use Rattle.macro_file.specs.Written.{macro_bytes}
use Rattle.macro_file.specs.declared.text.MacroText.{MacroText}
use Rattle.mesh_mend.specs.Mended.{mended}
use Rattle.mesh_mend.specs.Refusals.{IsMendRefusal, IsMendable}
use Rattle.mesh_mend.specs.declared.refusal.MendRefusal.{MendRefusal}
use Rattle.mesh_mend.specs.declared.refusal.MendRefusal.TheVariants.{Check, TooLarge, FlatPiece, Memory}
use Rattle.adapt_words.specs.Mending.{MendWords}
use Rattle.adapt_words.specs.Numbers.{Word}
use Rattle.adapt_cli.specs.FaultTexts.{End, check_line, joined}
use Rattle.adapt_cli.specs.InputFiles.{AcceptsText, RefusesText}
use Rattle.adapt_cli.specs.Loads.{AsksOnce, Loads}

-- the line of a macro text that is not mended
abbrev pub mend_line : MendRefusal → Option (List ℕ)
mend_line (Check refusal) = check_line refusal
mend_line (TooLarge vertices elements) = Some (joined (codes "adapt: mend: " ∷ decimal vertices ∷ codes " vertices and " ∷ decimal elements ∷ codes " elements are more than 65535\n" ∷ []))
mend_line (FlatPiece element edge) = Some (joined (codes "adapt: mend: element " ∷ decimal element ∷ codes " edge " ∷ decimal edge ∷ codes ": flat piece\n" ∷ []))
mend_line Memory = None

-- the macro text leads to the macro file of the mended text, or is refused
abbrev pub MendsTo : MacroText → End → Type 0
MendsTo text (Ok bytes) = IsMendable text × (bytes ≡ macro_bytes (mended text))
MendsTo text (Err fault) = (fault.0 ≡ 3) × (refusal : MendRefusal) × IsMendRefusal text refusal × (mend_line refusal ≡ Some fault.1)

-- what mending and its file lead to
abbrev pub MendLeads : MendWords → Files → End → Type 0
MendLeads mend = Loads mend.macro_file 3 RefusesText AcceptsText (λ text files. MendsTo text)

-- the file that it asks for
abbrev pub MendAsks : MendWords → Option Files → Word → Type 0
MendAsks mend = AsksOnce mend.macro_file
