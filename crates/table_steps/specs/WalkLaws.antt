-- What the word that a walk loads next shows.
use Rattle.std.specs.Prelude.{◌≡◌, ℕ, ◌+◌, Bool}
use Rattle.table_words.specs.Places.{member_of}
use Rattle.table_words.specs.Views.{Worker, Reader}
use Rattle.table_words.specs.Words.{Node}
use Rattle.table_state.specs.Laws.{Always}
use Rattle.table_steps.specs.WalkSteps.{WorkNext, ReadNext}

-- where the word that a walk for an element loads next names a block, a member of the block has the element's name, to which the walk can go
abbrev pub NextNamed : Type 0
NextNamed = Always (λ s w n v g. (j x k b : ℕ) (l : Node) → l.block ≡ b + 1
    → (v.kind j ≡ Worker → WorkNext s w (v.work j) x k l → (t : Bool) × (w.name (member_of b t) ≡ k))
    × ((q : ℕ) → v.kind j ≡ Reader → (v.read j).pin ≡ q + 1 → ReadNext s w (v.read j) x k l → (t : Bool) × (w.name (member_of b t) ≡ k)))
