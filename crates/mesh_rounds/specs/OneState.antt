-- There is one state of a mesh before any round, one after each, and one text of each.
use Rattle.std.specs.Prelude.{◌≡◌, ℕ, List}
use Rattle.mesh_names.specs.declared.rows.MarkRow.{MarkRow}
use Rattle.compat_check.specs.Meshes.{IsChecked, Mesh}
use Rattle.forest_plain.specs.Rounds.{Room}
use Rattle.mesh_rounds.specs.SameRounds.{IsSameDelta}
use Rattle.mesh_rounds.specs.State.{IsFirst, IsMeshRound, IsState, State}
use Rattle.mesh_rounds.specs.Texts.{IsTextOfState}

-- the law that a mesh has one state before any round
abbrev pub FirstIsOne : Type 0
FirstIsOne = (mesh : Mesh) (a b : State) → IsFirst mesh a → IsFirst mesh b → a ≡ b

-- the law that a round which is done leads from a state to one state, by the same patches in the same order
abbrev pub NextIsOne : Type 0
NextIsOne = (mesh : Mesh) → IsChecked mesh → (room : Room) (rows : List MarkRow) (old a b : State) → IsState mesh old →
    (one : IsMeshRound mesh room rows old a) (two : IsMeshRound mesh room rows old b) → (a ≡ b) × IsSameDelta one.delta two.delta

-- the law that a mesh has one text in a state
abbrev pub TextIsOne : Type 0
TextIsOne = (mesh : Mesh) → IsChecked mesh → (state : State) (a b : List ℕ) → IsTextOfState mesh state a → IsTextOfState mesh state b → a ≡ b
