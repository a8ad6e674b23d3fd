-- A run that is saved and resumed has the forest of the run that is not interrupted.
use Rattle.std.specs.Prelude.{◌≡◌, ℕ, List, [], ◌∷◌, ◌++◌, Ok}
use Rattle.compat_check.specs.Meshes.{Mesh}
use Rattle.mark_file.specs.Meaning.{Round}
use Rattle.mesh_rounds.specs.SameRounds.{AreSameRows}
use Rattle.mesh_rounds.specs.State.{IsFirst, State}
use Rattle.adapt_words.specs.Restarts.{SaveWords}
use Rattle.adapt_cli.specs.Restarts.{AcceptsRestart, Kept, SavesTo}
use Rattle.adapt_cli.specs.Resuming.{IsStart}
use Rattle.adapt_cli.specs.Rounds.{LeadTo, last_state}

-- rounds whose rows say the same, one by one; their numbers, and the places of the rows in their files, may differ
abbrev pub AreSameRounds : List Round → List Round → Type 0
AreSameRounds [] [] = Unit {0}
AreSameRounds (a ∷ rounds) (b ∷ others) = AreSameRows a.rows b.rows × AreSameRounds rounds others
AreSameRounds _ _ = ⊥

-- a run that is saved to a restart file, and one that goes on from what is read of the file
pub record IsInterrupted (mesh : Mesh) (earlier later : List Round) (end : State) : Type 0 where
  pub part : List ℕ
  pub save : SaveWords
  pub file : List ℕ
  pub saved : SavesTo (part, mesh) save earlier (Ok file)
  pub kept : Kept
  pub read : AcceptsRestart file kept
  pub pool : ℕ
  pub start : State
  pub is_start : IsStart kept.mesh kept.members start
  pub states : List State
  pub leads : LeadTo kept.mesh pool later start (Ok states)
  pub end_is : end ≡ last_state start states

-- a run that is not interrupted
pub record IsWholeRun (mesh : Mesh) (rounds : List Round) (end : State) : Type 0 where
  pub pool : ℕ
  pub first : State
  pub is_first : IsFirst mesh first
  pub states : List State
  pub leads : LeadTo mesh pool rounds first (Ok states)
  pub end_is : end ≡ last_state first states

-- the law that a run which is saved and resumed ends with the forest of the run that is not interrupted, where none is refused
abbrev pub InterruptedAsWhole : Type 0
InterruptedAsWhole = (mesh : Mesh) (earlier later rounds : List Round) (end whole : State) → AreSameRounds (earlier ++ later) rounds → IsInterrupted mesh earlier later end → IsWholeRun mesh rounds whole → end.members ≡ whole.members
