-- What a pass that knows a name as bisected finds on a walk for it.
use Rattle.std.specs.Prelude.{◌≡◌, ℕ, ◌+◌, ◌<◌, Bool, ◌⊎◌}
use Rattle.table_words.specs.Entries.{HasEntry}
use Rattle.table_words.specs.Setup.{Setup}
use Rattle.table_words.specs.Views.{Worker, Work, At}
use Rattle.table_words.specs.Words.{node}
use Rattle.table_state.specs.Ghosts.{chained}
use Rattle.table_state.specs.Laws.{Always}

-- a pass begins walks for the name k at the place x, which it found, or which is a macro element's
abbrev pub BeginsAt : Setup → Work → ℕ → ℕ → Type 0
BeginsAt s u x k = HasEntry u.found (x, k) ⊎ HasEntry u.stood (x, k) ⊎ ((x < s.elements) × (k ≡ s.top x))

-- a block to which a worker's walk has gone is in the chain of the place, so that it was not rolled back
abbrev pub WalksChained : Type 0
WalksChained = Always (λ s w n v g. (j x k b : ℕ) (t : Bool) → (v.work j).walk ≡ At x k b t → chained (g.life b) t ≡ x + 1)

-- a walk for a name that the pass knows as bisected never ends: the LINK word of the element's place names the block that bisects the
-- name, with no retired round, and BORN of a block to which the walk has gone is above 0, so that the name is found bisected there
abbrev pub KnownFound : Type 0
KnownFound = Always (λ s w n v g. (j x k : ℕ) → v.kind j ≡ Worker → HasEntry (v.work j).known k →
    (BeginsAt s (v.work j) x k → (b : ℕ) × (w.head x ≡ node (b + 1) 0) × (g.who (w.round + 1) k ≡ b + 1) × (0 < w.born b))
    × ((b : ℕ) (t : Bool) → (v.work j).walk ≡ At x k b t → (g.who (w.round + 1) k ≡ b + 1) × (0 < w.born b)))
