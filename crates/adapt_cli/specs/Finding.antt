-- What finding the leaves of points leads to: a line for each point, or why there is none.
use Rattle.std.specs.Prelude.{◌≡◌, ℕ, ◌≤◌, ◌⊎◌, List, [], ◌∷◌, length, codes, Option, Some, None, Ok, Err}
use Rattle.std.specs.Fmt.{decimal}
use Rattle.mesh_io.specs.Shelves.{Files}
use Rattle.mesh_names.specs.Names.{Name}
use Rattle.compat_check.specs.Meshes.{Mesh}
use Rattle.compat_check.specs.Points.{Point}
use Rattle.mark_file.specs.Meaning.{Round}
use Rattle.mesh_rounds.specs.State.{IsFirst, State}
use Rattle.locate_point.specs.PlaceTexts.{IsPlacesText}
use Rattle.locate_point.specs.PointsFile.{points_in}
use Rattle.locate_point.specs.declared.refusal.PointRefusal.{PointRefusal}
use Rattle.locate_point.specs.declared.refusal.PointRefusal.TheVariants.{BadPoint, PointRange, Memory}
use Rattle.adapt_words.specs.Finding.{FindWords}
use Rattle.adapt_words.specs.Numbers.{Word}
use Rattle.adapt_cli.specs.FaultTexts.{End, joined}
use Rattle.adapt_cli.specs.InputFiles.{AcceptsMacro, AcceptsMarks, IsTooLong, RefusesMacro}
use Rattle.adapt_cli.specs.Loads.{Asks, AsksOnce, Loads}
use Rattle.adapt_cli.specs.Outcome.{LoadsMarks}
use Rattle.mesh_rounds.specs.Texts.{AreLeaves}
use Rattle.adapt_cli.specs.Rounds.{LeadTo, last_state}

-- a fault of a line of the points file
abbrev pub at_point : ℕ → List ℕ → List ℕ
at_point line what = joined (codes "adapt: points: line " ∷ decimal line ∷ codes ": " ∷ what ∷ codes "\n" ∷ [])

-- the line of a points file that is refused
abbrev pub points_line : PointRefusal → Option (List ℕ)
points_line (BadPoint line) = Some (at_point line (codes "bad point"))
points_line (PointRange line) = Some (at_point line (codes "coordinate out of range"))
points_line Memory = None

-- the greatest length of a points file, in bytes
abbrev pub points_limit : ℕ
points_limit = 16777216

-- the bytes are a points file of these points
abbrev pub AcceptsPoints : List ℕ → List Point → Type 0
AcceptsPoints bytes points = (length bytes ≤ points_limit) × (points_in bytes ≡ Ok points)

-- they are no points
abbrev pub AreNoPoints : List ℕ → List ℕ → Type 0
AreNoPoints bytes line = (length bytes ≤ points_limit) × (refusal : PointRefusal) × (points_in bytes ≡ Err refusal) × (points_line refusal ≡ Some line)

-- the bytes are refused as a points file, with this line
abbrev pub RefusesPoints : List ℕ → List ℕ → Type 0
RefusesPoints bytes line = IsTooLong points_limit (codes "adapt: points: longer than 16777216 bytes\n") bytes line ⊎ AreNoPoints bytes line

-- from the mesh before any round the rounds lead to leaves, of which the text has a line for each point, or to the first fault
abbrev pub FindsTo : Mesh → FindWords → List Round → List Point → End → Type 0
FindsTo mesh find rounds points (Ok text) =
    (first : State) × IsFirst mesh first × (states : List State) × LeadTo mesh find.pool rounds first (Ok states)
    × (list : List Name) × AreLeaves mesh (last_state first states) list × IsPlacesText mesh list points text
FindsTo mesh find rounds points (Err fault) = (first : State) × IsFirst mesh first × LeadTo mesh find.pool rounds first (Err fault)

-- what the points file leads to, where the mesh and its rounds are known
abbrev pub LoadsPoints : FindWords → Mesh → List Round → Files → End → Type 0
LoadsPoints find mesh rounds = Loads find.points_file 4 RefusesPoints AcceptsPoints (λ points files. FindsTo mesh find rounds points)

-- what finding and its files lead to
abbrev pub FindLeads : FindWords → Files → End → Type 0
FindLeads find = Loads find.macro_file 3 RefusesMacro AcceptsMacro (λ mesh. LoadsMarks find.marks_file (LoadsPoints find mesh))

-- the files that it asks for
abbrev pub FindAsks : FindWords → Option Files → Word → Type 0
FindAsks find = Asks find.macro_file AcceptsMacro (Asks find.marks_file AcceptsMarks (AsksOnce find.points_file))
