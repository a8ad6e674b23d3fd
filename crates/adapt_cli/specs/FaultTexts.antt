-- The line on err for each refusal; want of memory has a line of its own.
use Rattle.std.specs.Prelude.{ℕ, List, [], ◌∷◌, ◌++◌, codes, Option, Some, None, Result}
use Rattle.std.specs.Fmt.{decimal}
use Rattle.macro_file.specs.declared.refusal.Key.{Key}
use Rattle.macro_file.specs.declared.refusal.Key.TheVariants.{VertexCount, ElementCount, Coordinates, Triples}
use Rattle.macro_file.specs.declared.refusal.MacroRefusal.{MacroRefusal}
use Rattle.macro_file.specs.declared.refusal.MacroRefusal.TheVariants.{BadKey, KeyTwice, KeyMissing, BadNumber as BadMacroNumber, CountDiffers, TooMany as TooManyOf, CoordRange, ValueRange, Memory as no_macro_memory}
use Rattle.compat_check.specs.declared.refusal.CheckRefusal.{CheckRefusal}
use Rattle.compat_check.specs.declared.refusal.CheckRefusal.TheVariants.{VertexRange, RepeatedVertex, Flat, TwinElements, EdgeOfThree, NeighboursDiffer, Incompatible, GradeTooHigh, Memory as no_check_memory}
use Rattle.mark_file.specs.declared.refusal.MarkRefusal.{MarkRefusal}
use Rattle.mark_file.specs.declared.refusal.MarkRefusal.TheVariants.{BadHeader, BadFields, BadRound, RoundsFall, BadWhat, BadWhere, BadNumber, TooMany, Memory as no_memory}
use Rattle.forest_plain.specs.declared.refusal.RoundRefusal.{RoundRefusal}
use Rattle.forest_plain.specs.declared.refusal.RoundRefusal.TheVariants.{RoundsUsedUp, NotALeaf, LevelTooDeep, PoolFull, Memory}

-- pieces of text, one after another
abbrev pub joined : List (List ℕ) → List ℕ
joined [] = []
joined (a ∷ []) = a
joined (a ∷ b ∷ rest) = a ++ joined (b ∷ rest)

-- a fault of a row of the marks file
abbrev pub at_row : ℕ → List ℕ → List ℕ
at_row row what = joined (codes "adapt: marks: row " ∷ decimal row ∷ codes ": " ∷ what ∷ codes "\n" ∷ [])

-- a fault of a line of the macro file
abbrev pub at_line : ℕ → List ℕ → List ℕ
at_line line what = joined (codes "adapt: macro: line " ∷ decimal line ∷ codes ": " ∷ what ∷ codes "\n" ∷ [])

-- a key that must be there
abbrev pub key_text : Key → List ℕ
key_text VertexCount = codes "number of vertices"
key_text ElementCount = codes "number of elements"
key_text Coordinates = codes "vertex coordinates"
key_text Triples = codes "element vertices"

-- the line of a macro file that is refused as it is read
abbrev pub macro_line : MacroRefusal → Option (List ℕ)
macro_line (BadKey line) = Some (at_line line (codes "bad key"))
macro_line (KeyTwice line) = Some (at_line line (codes "key twice"))
macro_line (KeyMissing key) = Some (joined (codes "adapt: macro: key missing: " ∷ key_text key ∷ codes "\n" ∷ []))
macro_line (BadMacroNumber line) = Some (at_line line (codes "bad number"))
macro_line (CountDiffers line wanted found) = Some (at_line line (joined (decimal found ∷ codes " numbers where " ∷ decimal wanted ∷ codes " belong" ∷ [])))
macro_line (TooManyOf line) = Some (at_line line (codes "more than 65535"))
macro_line (CoordRange line) = Some (at_line line (codes "coordinate out of range"))
macro_line (ValueRange line) = Some (at_line line (codes "value out of range"))
macro_line no_macro_memory = None

-- a fault of an element, and of an edge of an element
abbrev pub at_element : ℕ → List ℕ → List ℕ
at_element element what = joined (codes "adapt: macro: element " ∷ decimal element ∷ codes ": " ∷ what ∷ codes "\n" ∷ [])

abbrev pub at_edge : ℕ → ℕ → List ℕ → List ℕ
at_edge element edge what = joined (codes "adapt: macro: element " ∷ decimal element ∷ codes " edge " ∷ decimal edge ∷ codes ": " ∷ what ∷ codes "\n" ∷ [])

-- the line of a macro file that is refused as it is checked
abbrev pub check_line : CheckRefusal → Option (List ℕ)
check_line (VertexRange element) = Some (at_element element (codes "vertex out of range"))
check_line (RepeatedVertex element) = Some (at_element element (codes "repeated vertex"))
check_line (Flat element) = Some (at_element element (codes "flat"))
check_line (TwinElements first second) = Some (joined (codes "adapt: macro: elements " ∷ decimal first ∷ codes " and " ∷ decimal second ∷ codes ": twin elements\n" ∷ []))
check_line (EdgeOfThree element edge) = Some (at_edge element edge (codes "edge of three"))
check_line (NeighboursDiffer element edge) = Some (at_edge element edge (codes "neighbours differ"))
check_line (Incompatible element edge) = Some (at_edge element edge (codes "incompatible"))
check_line (GradeTooHigh element grade) = Some (at_element element (joined (codes "grade " ∷ decimal grade ∷ codes " is above 24" ∷ [])))
check_line no_check_memory = None

-- the line of a marks file that is refused
abbrev pub marks_line : MarkRefusal → Option (List ℕ)
marks_line (BadHeader row) = Some (at_row row (codes "bad header"))
marks_line (BadFields row) = Some (at_row row (codes "bad fields"))
marks_line (BadRound row) = Some (at_row row (codes "bad round"))
marks_line (RoundsFall row) = Some (at_row row (codes "rounds fall"))
marks_line (BadWhat row) = Some (at_row row (codes "bad what"))
marks_line (BadWhere row) = Some (at_row row (codes "bad where"))
marks_line (BadNumber row) = Some (at_row row (codes "bad number"))
marks_line (TooMany row) = Some (at_row row (codes "too many rows"))
marks_line no_memory = None

-- a status, and the line on err that goes with it
abbrev pub Fault : Type 0
Fault = ℕ × List ℕ

-- a text, or a fault
abbrev pub End : Type 0
End = Result (List ℕ) Fault

-- the fault of a round that needs more patches than the pool has
abbrev pub full_pool : ℕ → ℕ → ℕ → Fault
full_pool round needed pool = (5, joined (codes "adapt: round " ∷ decimal round ∷ codes ": " ∷ decimal needed ∷ codes " patches needed, pool " ∷ decimal pool ∷ codes "\n" ∷ []))

-- what becomes of a round that is refused
abbrev pub round_fault : ℕ → RoundRefusal → Option Fault
round_fault round (NotALeaf row) = Some (4, at_row row (codes "not a leaf"))
round_fault round (LevelTooDeep row level) = Some (4, at_row row (joined (codes "level " ∷ decimal level ∷ codes " is above 24" ∷ [])))
round_fault round (PoolFull needed kept pool) = Some (full_pool round needed pool)
round_fault round (RoundsUsedUp rounds) = None
round_fault round Memory = None

-- the fault of a kept forest that has more patches than the pool
abbrev pub full_forest : ℕ → ℕ → Fault
full_forest needed pool = (5, joined (codes "adapt: restart: " ∷ decimal needed ∷ codes " patches needed, pool " ∷ decimal pool ∷ codes "\n" ∷ []))

-- the fault of a marks file that has all rounds already
abbrev pub no_round_left : Fault
no_round_left = (4, codes "adapt: marks: no round left\n")

-- the lines for words that are outside the form
abbrev pub usage : List ℕ
usage =
    codes "usage: adapt run MACRO MARKS [--workers N] [--pool P] [--report]\n       adapt soak START GRID ROUNDS [--workers N] [--pool P]\n       adapt mark MACRO MARKS RULE [--workers N] [--pool P]\n"
    ++ codes "       adapt save MACRO MARKS [--workers N] [--pool P]\n       adapt join FIRST SECOND\n       adapt resume RESTART MARKS [--workers N] [--pool P]\n       adapt find MACRO MARKS POINTS [--workers N] [--pool P]\n       adapt mend MACRO\n"

-- the line for want of memory
abbrev pub memory_line : List ℕ
memory_line = codes "adapt: out of memory\n"

-- the line for a file whose load failed
abbrev pub read_fault_line : List ℕ → List ℕ
read_fault_line name = joined (codes "adapt: read fault: " ∷ name ∷ codes "\n" ∷ [])

-- the line for a text that out did not take
abbrev pub write_fault_line : List ℕ
write_fault_line = codes "adapt: write fault\n"
