-- That no step reuses a block to which a walk goes at a round that may be read.
use Rattle.std.specs.Prelude.{◌≡◌, ℕ, ◌<◌, ◌≤◌, Bool, ◌⊎◌}
use Rattle.mesh_names.specs.Triangles.{Shape}
use Rattle.mesh_names.specs.Partners.{Across, Tells}
use Rattle.table_words.specs.declared.layout.Layout.{Layout}
use Rattle.table_words.specs.Claims.{Drawn, claim}
use Rattle.table_words.specs.Entries.{HasEntry}
use Rattle.table_words.specs.Places.{member_of}
use Rattle.table_words.specs.Setup.{setup_of}
use Rattle.table_words.specs.Words.{Words}
use Rattle.table_state.specs.Bisections.{MayRead}
use Rattle.table_reading.specs.Reading.{GoesTo, IsReached}
use Rattle.table_steps.specs.States.{State, IsLawful}
use Rattle.table_steps.specs.Steps.{Step}

-- after a step from the words w the NAME words of the block c are as before, and a HISTORY word of it, but where no
-- walk at q would go on by it; and the block is in no free row, and of no claim that may fill its words
abbrev pub Spares : ℕ → ℕ → Words → State → Type 0
Spares q c w b = ((t : Bool) → b.words.name (member_of c t) ≡ w.name (member_of c t))
    × ((t : Bool) → (b.words.history (member_of c t) ≡ w.history (member_of c t)) ⊎ ((e : ℕ) → GoesTo q (w.history (member_of c t)) e → ⊥))
    × ((i : ℕ) → b.words.cursor ≤ i → i < b.words.free → b.words.row i ≡ c → ⊥) × ((j x m : ℕ) → HasEntry (b.views.claims j) (claim x m (Drawn c)) → ⊥)

-- the law that a step leaves alone each block to which a walk goes, before it, at a round that may be read then
abbrev pub StepsSpare : Type 0
StepsSpare = (mesh : Shape) (across : Across) (l : Layout) (passes : ℕ) → Tells mesh across → (a b : State) → Step (setup_of mesh across l passes) a b
    → IsLawful (setup_of mesh across l passes) a
    → (q c : ℕ) → MayRead a.words.round a.views.ruling.phase a.views.read q → IsReached a.words l.elements q c → Spares q c a.words b
