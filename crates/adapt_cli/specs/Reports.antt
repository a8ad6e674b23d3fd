-- The lines of a report: one for each round, in place of the mesh.
use Rattle.std.specs.Prelude.{◌≡◌, ℕ, ◌+◌, Bool, true, false, List, [], ◌∷◌, ◌++◌, length, codes}
use Rattle.std.specs.Fmt.{decimal}
use Rattle.mesh_names.specs.Names.{Name}
use Rattle.compat_check.specs.Meshes.{Mesh}
use Rattle.mesh_rounds.specs.State.{State}
use Rattle.mesh_rounds.specs.Texts.{AreLeaves, IsTextOfState, hole_count, vertex_count}
use Rattle.adapt_cli.specs.FaultTexts.{joined}
use Rattle.adapt_cli.specs.Rounds.{last_state}

-- a round's line, by its number and the state after it
abbrev pub round_line : Mesh → ℕ → State → List Name → List ℕ
round_line mesh number state list = joined (codes "round " ∷ decimal number ∷ codes " leaves " ∷ decimal (length list) ∷ codes " vertices " ∷ decimal (vertex_count mesh state) ∷ codes " holes " ∷ decimal (hole_count state) ∷ codes "\n" ∷ [])

-- it is a round's line
abbrev pub IsRoundText : Mesh → ℕ → State → List ℕ → Type 0
IsRoundText mesh number state line = (list : List Name) × AreLeaves mesh state list × (line ≡ round_line mesh number state list)

-- the lines of rounds that are numbered from here on, by the states after them
abbrev pub IsReport : Mesh → ℕ → List State → List ℕ → Type 0
IsReport mesh number [] text = text ≡ []
IsReport mesh number (state ∷ states) text =
    (line : List ℕ) × IsRoundText mesh number state line × (rest : List ℕ) × IsReport mesh (number + 1) states rest × (text ≡ line ++ rest)

-- what is written of a run, from the state before it and those after its rounds: their report where one is asked for, and else the mesh after the last round
abbrev pub IsOutput : Mesh → Bool → State → List State → List ℕ → Type 0
IsOutput mesh true first states text = IsReport mesh 1 states text
IsOutput mesh false first states text = IsTextOfState mesh (last_state first states) text
