-- What going on from a restart file leads to: the mesh after the rounds of a marks file, or why there is none.
use Rattle.std.specs.Prelude.{◌≡◌, ℕ, ◌<◌, ◌≤◌, ◌⊎◌, List, length, Option, Ok, Err}
use Rattle.mesh_io.specs.Shelves.{Files}
use Rattle.mesh_names.specs.Names.{Name}
use Rattle.mesh_names.specs.Patches.{patch_count}
use Rattle.compat_check.specs.Meshes.{Mesh, across_in}
use Rattle.mark_file.specs.Meaning.{Round}
use Rattle.mesh_rounds.specs.Resumed.{IsResumed}
use Rattle.mesh_rounds.specs.State.{State}
use Rattle.restart_file.specs.Kept.{set_of}
use Rattle.adapt_words.specs.Numbers.{Word}
use Rattle.adapt_words.specs.Restarts.{ResumeWords}
use Rattle.adapt_cli.specs.FaultTexts.{End, full_forest, no_round_left}
use Rattle.adapt_cli.specs.Loads.{Asks, AsksOnce, Loads}
use Rattle.adapt_cli.specs.Outcome.{LoadsMarks}
use Rattle.mesh_rounds.specs.Texts.{IsTextOfState}
use Rattle.adapt_cli.specs.Restarts.{AcceptsRestart, RefusesRestart}
use Rattle.adapt_cli.specs.Rounds.{LeadTo, last_state}

-- how many rounds a marks file may have that goes on from a restart file: 24 of the 65,535 are for the forest
abbrev pub most_resumed : ℕ
most_resumed = 65511

-- how many patches the forest with these members has
abbrev pub patches_of : Mesh → List Name → ℕ
patches_of mesh members = patch_count (across_in mesh) (set_of members)

-- the forest with these members, with the values that it has from those of the macro file
pub record IsStart (mesh : Mesh) (members : List Name) (start : State) : Type 0 where
  pub members_are : start.members ≡ set_of members
  pub resumed : IsResumed mesh start

-- the rounds can follow, and the pool has room for the forest
pub record CanGoOn (mesh : Mesh) (members : List Name) (pool : ℕ) (rounds : List Round) : Type 0 where
  pub left : length rounds ≤ most_resumed
  pub room : patches_of mesh members ≤ pool

-- the rounds can follow, but the pool has no room for the forest
pub record IsForestTooLarge (mesh : Mesh) (members : List Name) (pool : ℕ) (rounds : List Round) : Type 0 where
  pub left : length rounds ≤ most_resumed
  pub full : pool < patches_of mesh members

-- the end of a forest that has more patches than the pool
abbrev pub IsTooLarge : ℕ → ℕ → End → Type 0
IsTooLarge needed pool end = end ≡ Err (full_forest needed pool)

-- from the forest the rounds lead to the mesh after the last of them, or to a fault: first no round is left, then the pool is too small, and then the first fault of a round
abbrev pub ResumesTo : Mesh → List Name → ResumeWords → List Round → End → Type 0
ResumesTo mesh members resume rounds (Ok text) =
    CanGoOn mesh members resume.pool rounds × (start : State) × IsStart mesh members start × (states : List State) × LeadTo mesh resume.pool rounds start (Ok states)
    × IsTextOfState mesh (last_state start states) text
ResumesTo mesh members resume rounds (Err fault) =
    ((most_resumed < length rounds) × (fault ≡ no_round_left))
    ⊎ (IsForestTooLarge mesh members resume.pool rounds × (fault ≡ full_forest (patches_of mesh members) resume.pool))
    ⊎ (CanGoOn mesh members resume.pool rounds × (start : State) × IsStart mesh members start × LeadTo mesh resume.pool rounds start (Err fault))

-- what going on and its files lead to
abbrev pub ResumeLeads : ResumeWords → Files → End → Type 0
ResumeLeads resume = Loads resume.restart_file 3 RefusesRestart AcceptsRestart (λ kept. LoadsMarks resume.marks_file (λ rounds files. ResumesTo kept.mesh kept.members resume rounds))

-- the files that it asks for
abbrev pub ResumeAsks : ResumeWords → Option Files → Word → Type 0
ResumeAsks resume = Asks resume.restart_file AcceptsRestart (AsksOnce resume.marks_file)
