-- Which sweeps the owner has, by what it loads alone.
use Rattle.std.specs.Prelude.{◌≡◌, ℕ, ◌+◌, ◌<◌, Bool, ◌⊎◌}
use Rattle.table_words.specs.Entries.{HasEntry, Noted}
use Rattle.table_words.specs.Places.{member_of, child_place}
use Rattle.table_words.specs.Setup.{Setup}
use Rattle.table_words.specs.Views.{Resting, Closing, Views}
use Rattle.table_words.specs.Words.{Node, node}
use Rattle.table_state.specs.Ghosts.{Placed, stands}
use Rattle.table_state.specs.Laws.{Always}
use Rattle.table_steps.specs.Onward.{Onward}
use Rattle.table_steps.specs.SweepSteps.{IsDrained}

-- the place of a macro element, or of a child of a block that the owner noted
abbrev pub IsKnownPlace : Setup → Views → ℕ → Type 0
IsKnownPlace s v x = (x < s.elements) ⊎ ((a z i : ℕ) × (t c : Bool) × HasEntry v.ruling.placed (a, z, i) × (x ≡ child_place s.elements a t c))

-- the law that the owner can stamp a LINK word that names a block retired in the round, and cut a block whose rounds are drained out of
-- a LINK word, and out of a HISTORY word of a block that it noted: by the HISTORY word of the block's member at the place
abbrev pub SweepsGoOn : Type 0
SweepsGoOn = Always (λ s w n v g. (x b e : ℕ) → Noted (v.owned 0).died b e →
    (v.ruling.phase ≡ Closing → IsKnownPlace s v x → Noted (v.owned 0).head x (node (b + 1) 0) → e ≡ w.round + 1
    → Onward s w n v (λ c. c.words.head x ≡ node (b + 1) e))
    × (v.ruling.phase ≡ Resting → 0 < e → IsDrained v e
    → (IsKnownPlace s v x → Noted (v.owned 0).head x (node (b + 1) e) → (t : Bool)
    × ((l : Node) → Noted (v.owned 0).history (member_of b t) l → Onward s w n v (λ c. c.words.head x ≡ l)))
    × ((a z i : ℕ) (u : Bool) → HasEntry v.ruling.placed (a, z, i) → stands (Placed z i) u ≡ x + 1 → Noted (v.owned 0).history (member_of a u) (node (b + 1) e)
    → (t : Bool) × ((l : Node) → Noted (v.owned 0).history (member_of b t) l → Onward s w n v (λ c. c.words.history (member_of a u) ≡ l)))))
