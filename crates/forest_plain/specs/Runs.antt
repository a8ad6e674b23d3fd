-- Rounds, one after another, up to the first that is refused.
use Rattle.std.specs.Prelude.{◌≡◌, ℕ, List, [], ◌∷◌, ◌++◌, length}
use Rattle.mesh_names.specs.declared.patch.RoundDelta.{RoundDelta}
use Rattle.mesh_names.specs.declared.rows.MarkRow.{MarkRow}
use Rattle.mesh_names.specs.declared.rows.RoundMarks.{RoundMarks}
use Rattle.forest_plain.specs.AnyForest.{IsDone, IsRefusal, Seen}
use Rattle.forest_plain.specs.declared.refusal.RoundRefusal.{RoundRefusal}
use Rattle.forest_plain.specs.declared.refusal.RunRefusal.{RunRefusal}
use Rattle.forest_plain.specs.declared.refusal.RunRefusal.TheVariants.{AtRound, Memory}

-- a round was done, and what it changed was added to the list
pub record IsAdded (old : Seen) (kept : ℕ) (rows : List MarkRow) (new : Seen) (list longer : List RoundDelta) : Type 0 where
  pub delta : RoundDelta
  pub done : IsDone old kept rows new delta
  pub added : longer ≡ list ++ delta ∷ []

-- each round was done on the forest that the one before it left, and changed this; `seen` and `kept` are what contracts see of a forest
abbrev pub AreDone : {F : Type 0} → (F → Seen) → (F → ℕ) → List RoundMarks → List RoundDelta → F → F → Type 0
AreDone seen kept [] [] old new = seen new ≡ seen old
AreDone seen kept [] (delta ∷ deltas) old new = ⊥
AreDone seen kept (round ∷ rounds) [] old new = ⊥
AreDone {F} seen kept (round ∷ rounds) (delta ∷ deltas) old new = (next : F) × IsDone (seen old) (kept next) round.rows.items (seen next) delta × AreDone seen kept rounds deltas next new

-- the rounds before this place of the list were done, and the round at it was refused and left the forest as it was
pub record StopsAt {F : Type 0} (seen : F → Seen) (kept : F → ℕ) (rounds : List RoundMarks) (old new : F) (index : ℕ) (refusal : RoundRefusal) : Type 0 where
  pub before : List RoundMarks
  pub round : RoundMarks
  pub after : List RoundMarks
  pub split : rounds ≡ before ++ round ∷ after
  pub place : length before ≡ index
  pub deltas : List RoundDelta
  pub done : AreDone seen kept before deltas old new
  pub refused : IsRefusal (seen new) (kept new) round.rows.items refusal

-- when each refusal of a run comes, and where it leaves the forest: want of memory comes before the first round
abbrev pub IsRunRefusal : {F : Type 0} → (F → Seen) → (F → ℕ) → List RoundMarks → F → F → RunRefusal → Type 0
IsRunRefusal seen kept rounds old new (AtRound index refusal) = StopsAt seen kept rounds old new index refusal
IsRunRefusal seen kept rounds old new Memory = seen new ≡ seen old
