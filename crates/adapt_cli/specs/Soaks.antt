-- What a soak leads to: rounds of drawn marks on a grid, and one line.
use Rattle.std.specs.Prelude.{◌≡◌, ℕ, zero, suc, ◌+◌, ◌<◌, ◌⊎◌, min, List, [], ◌∷◌, length, codes, Result, Ok, Err}
use Rattle.std.specs.Fmt.{decimal}
use Rattle.mesh_names.specs.Names.{Name}
use Rattle.mesh_names.specs.Patches.{patch_count}
use Rattle.mesh_names.specs.Triangles.{level}
use Rattle.mesh_names.specs.Forests.{Names}
use Rattle.mesh_names.specs.declared.rows.MarkRow.{MarkRow}
use Rattle.macro_file.specs.Text.{macro_of}
use Rattle.macro_file.specs.declared.text.MacroText.{MacroText}
use Rattle.compat_check.specs.Meshes.{Mesh, across_in, shape_of}
use Rattle.compat_check.specs.Checks.{IsMeshOf}
use Rattle.forest_plain.specs.Rounds.{NeedsPatches}
use Rattle.mesh_rounds.specs.State.{IsFirst, IsMeshRound, State}
use Rattle.soak.specs.Grid.{grid}
use Rattle.soak.specs.Rows.{Drawing, after, rows_for}
use Rattle.adapt_words.specs.Rounds.{SoakWords}
use Rattle.adapt_cli.specs.FaultTexts.{End, Fault, full_pool, joined}
use Rattle.mesh_rounds.specs.Texts.{AreLeaves, IsTextOfState, vertex_count}
use Rattle.adapt_cli.specs.Rounds.{whole}

-- the mesh of the grid with this many squares in a row
pub record IsGridMesh (side : ℕ) (mesh : Mesh) : Type 0 where
  pub text : MacroText
  pub is_grid : macro_of text ≡ grid side
  pub checked : IsMeshOf text mesh

-- the rows of a round can all be done, but need more patches than the pool has, and this is told of it
pub record Overfills (mesh : Mesh) (pool : ℕ) (old : Names) (number : ℕ) (rows : List MarkRow) (fault : Fault) : Type 0 where
  pub patches : ℕ
  pub needs : NeedsPatches (shape_of mesh) (across_in mesh) old rows patches
  pub above : pool < patches
  pub told : fault ≡ full_pool number (min patches 4294967295) pool

-- so many rounds from one of this number on, each with the marks that are drawn for the leaves before it: what they lead to from a state. No row is refused, so that only a full pool ends them
abbrev pub DrawsTo : Mesh → ℕ → ℕ → ℕ → Drawing → State → Result State Fault → Type 0
DrawsTo mesh pool zero number drawing old end = end ≡ Ok old
DrawsTo mesh pool (suc left) number drawing old end =
    (list : List Name) × AreLeaves mesh old list ×
    (((new : State) × IsMeshRound mesh (whole pool) (rows_for (level (shape_of mesh)) drawing list) old new × DrawsTo mesh pool left (number + 1) (after (level (shape_of mesh)) drawing list) new end)
    ⊎ ((fault : Fault) × Overfills mesh pool old.members number (rows_for (level (shape_of mesh)) drawing list) fault × (end ≡ Err fault)))

-- one such round leads to another state
abbrev pub DrawnTo : Mesh → ℕ → ℕ → Drawing → State → Drawing → State → Type 0
DrawnTo mesh pool number drawing old next new =
    (list : List Name) × AreLeaves mesh old list × IsMeshRound mesh (whole pool) (rows_for (level (shape_of mesh)) drawing list) old new × (next ≡ after (level (shape_of mesh)) drawing list)

-- how the line of a soak begins: with its words
abbrev pub soak_head : SoakWords → List ℕ
soak_head soak = joined (codes "soak " ∷ decimal soak.start ∷ codes " grid " ∷ decimal soak.grid ∷ codes " rounds " ∷ decimal soak.rounds ∷ [])

-- the line of a soak, with its leaves, vertices and patches and the length of the mesh's text
abbrev pub soak_line : SoakWords → ℕ → ℕ → ℕ → ℕ → List ℕ
soak_line soak leaves vertices patches bytes = joined (soak_head soak ∷ codes " leaves " ∷ decimal leaves ∷ codes " vertices " ∷ decimal vertices ∷ codes " patches " ∷ decimal patches ∷ codes " bytes " ∷ decimal bytes ∷ codes "\n" ∷ [])

-- the line tells of the mesh in this state, whose text has so many bytes
abbrev pub IsSoakText : Mesh → SoakWords → State → ℕ → List ℕ → Type 0
IsSoakText mesh soak last bytes line = (list : List Name) × AreLeaves mesh last list × (line ≡ soak_line soak (length list) (vertex_count mesh last) (patch_count (across_in mesh) last.members) bytes)

-- the line tells of the mesh in this state
abbrev pub TellsOf : Mesh → SoakWords → State → List ℕ → Type 0
TellsOf mesh soak last line = (text : List ℕ) × IsTextOfState mesh last text × IsSoakText mesh soak last (length text) line

-- what a soak leads to: its line, or the fault of the first round that needs more patches than the pool has
abbrev pub IsSoakOutcome : SoakWords → End → Type 0
IsSoakOutcome soak (Ok line) =
    (mesh : Mesh) × IsGridMesh soak.grid mesh × (first : State) × IsFirst mesh first
    × (last : State) × DrawsTo mesh soak.pool soak.rounds 1 (record { state = soak.start; row = 1 }) first (Ok last) × TellsOf mesh soak last line
IsSoakOutcome soak (Err fault) =
    (mesh : Mesh) × IsGridMesh soak.grid mesh × (first : State) × IsFirst mesh first
    × DrawsTo mesh soak.pool soak.rounds 1 (record { state = soak.start; row = 1 }) first (Err fault)
