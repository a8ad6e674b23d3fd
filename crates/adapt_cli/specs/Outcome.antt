-- What a run leads to: the text on out, or a status with its line on err. The first of these that holds:
-- the macro file is refused; the marks file is refused; a round is refused; or else the text.
use Rattle.std.specs.Prelude.{List, Option, Ok, Err}
use Rattle.mesh_io.specs.Shelves.{Files}
use Rattle.compat_check.specs.Meshes.{Mesh}
use Rattle.mark_file.specs.Meaning.{Round}
use Rattle.adapt_words.specs.Numbers.{Word}
use Rattle.adapt_words.specs.Rounds.{RunWords}
use Rattle.mesh_rounds.specs.State.{IsFirst, State}
use Rattle.adapt_cli.specs.FaultTexts.{End}
use Rattle.adapt_cli.specs.InputFiles.{AcceptsMacro, AcceptsMarks, RefusesMacro, RefusesMarks}
use Rattle.adapt_cli.specs.Loads.{Asks, AsksOnce, Loads}
use Rattle.adapt_cli.specs.Reports.{IsOutput}
use Rattle.adapt_cli.specs.Rounds.{LeadTo}

-- from the mesh before any round the rounds lead to this output, or to the first fault
abbrev pub RunsTo : Mesh → RunWords → List Round → End → Type 0
RunsTo mesh run rounds (Ok text) =
    (first : State) × IsFirst mesh first × (states : List State) × LeadTo mesh run.pool rounds first (Ok states) × IsOutput mesh run.report first states text
RunsTo mesh run rounds (Err fault) = (first : State) × IsFirst mesh first × LeadTo mesh run.pool rounds first (Err fault)

-- what a marks file leads to, where `next` tells what its rounds lead to
abbrev pub LoadsMarks : Word → (List Round → Files → End → Type 0) → Files → End → Type 0
LoadsMarks marks_file next = Loads marks_file 4 RefusesMarks AcceptsMarks next

-- what a macro file and a marks file lead to, where `next` tells what the rounds on the mesh lead to
abbrev pub LoadsBoth : Word → Word → (Mesh → List Round → Files → End → Type 0) → Files → End → Type 0
LoadsBoth macro_file marks_file next = Loads macro_file 3 RefusesMacro AcceptsMacro (λ mesh. LoadsMarks marks_file (next mesh))

-- a macro file is asked for, and then a marks file
abbrev pub AsksBoth : Word → Word → Option Files → Word → Type 0
AsksBoth macro_file marks_file = Asks macro_file AcceptsMacro (AsksOnce marks_file)

-- what a run and its files lead to
abbrev pub RunLeads : RunWords → Files → End → Type 0
RunLeads run = LoadsBoth run.macro_file run.marks_file (λ mesh rounds files. RunsTo mesh run rounds)

-- the files that a run asks for
abbrev pub RunAsks : RunWords → Option Files → Word → Type 0
RunAsks run = AsksBoth run.macro_file run.marks_file
