-- The steps of readers' passes: pins, and walks at the pinned round.
use Rattle.std.specs.Prelude.{◌≡◌, ℕ, ◌+◌, ◌<◌, ◌≤◌, Bool, true, false, [], ◌∷◌, ◌⊎◌}
use Rattle.table_words.specs.Functions.{update}
use Rattle.table_words.specs.Places.{member_of}
use Rattle.table_words.specs.Views.{Reader, Still, At, Past}
use Rattle.table_words.specs.Words.{Node}
use Rattle.table_steps.specs.States.{StepKind, state}
use Rattle.table_steps.specs.WalkSteps.{ReadNext, with_children}

-- a load of ROUND: the pass is ready where it shows fewer pins than the limit
abbrev pub LoadRound : StepKind
LoadRound s w n v after = (j : ℕ) × (v.kind j ≡ Reader) × (ready : Bool) × (((ready ≡ true) × (w.taken < s.limit)) ⊎ (ready ≡ false))
    × (after ≡ state w n (record v { read = update v.read j (record (v.read j) { ready = ready; seen = w.round }) }))

-- pin: one more is taken of the round that ROUND shows
abbrev pub PinStep : StepKind
PinStep s w n v after = (j : ℕ) × (v.kind j ≡ Reader) × ((v.read j).pin ≡ 0) × ((v.read j).ready ≡ true)
    × (after ≡ state (record w { taken = w.taken + 1 }) n (record v {
      read = update v.read j (record (v.read j) {
        pin = w.round + 1;
        ready = false;
        went = [];
        walk = Still;
        places = [];
        seen = w.round;
      });
    }))

-- unpin: it is given back in RELEASED of its round
abbrev pub UnpinStep : StepKind
UnpinStep s w n v after = (j q : ℕ) × (v.kind j ≡ Reader) × ((v.read j).pin ≡ q + 1)
    × (after ≡ state (record w { released = update w.released q (w.released q + 1) }) n (record v {
      read = update v.read j (record (v.read j) {
        pin = 0;
        went = [];
        walk = Still;
        places = [];
      });
    }))

-- the word of a walk at the pinned round q names nothing, or a block that was retired by q: the name is not bisected at q
abbrev pub ReadEnds : StepKind
ReadEnds s w n v after = (j q : ℕ) × (v.kind j ≡ Reader) × ((v.read j).pin ≡ q + 1) × (x k : ℕ) × (l : Node) × ReadNext s w (v.read j) x k l
    × ((l.block ≡ 0) ⊎ ((0 < l.died) × (l.died ≤ q)))
    × (after ≡ state w n (record v {
      read = update v.read j (record (v.read j) {
        walk = Still;
        notes = record { round = q; name = k; bisected = false } ∷ (v.read j).notes;
      });
    }))

-- or a block, to which the walk goes: the member with the element's name
abbrev pub ReadGoes : StepKind
ReadGoes s w n v after = (j q : ℕ) × (v.kind j ≡ Reader) × ((v.read j).pin ≡ q + 1) × (x k b : ℕ) × (l : Node) × ReadNext s w (v.read j) x k l
    × (l.block ≡ b + 1) × ((l.died ≡ 0) ⊎ (q < l.died)) × (t : Bool) × (w.name (member_of b t) ≡ k)
    × (after ≡ state w n (record v { read = update v.read j (record (v.read j) { went = b ∷ (v.read j).went; walk = At x k b t; back = l.died }) }))

-- BORN is above 0 and not above q: the name is bisected at q
abbrev pub ReadFinds : StepKind
ReadFinds s w n v after = (j q : ℕ) × (v.kind j ≡ Reader) × ((v.read j).pin ≡ q + 1) × (x k b : ℕ) × (t : Bool) × ((v.read j).walk ≡ At x k b t)
    × (0 < w.born b) × (w.born b ≤ q)
    × (after ≡ state w n (record v {
      read = update v.read j (record (v.read j) {
        walk = Still;
        notes = record { round = q; name = k; bisected = true } ∷ (v.read j).notes;
        places = with_children s b t k (v.read j).places;
      });
    }))

-- or the block is passed by
abbrev pub ReadPasses : StepKind
ReadPasses s w n v after = (j q : ℕ) × (v.kind j ≡ Reader) × ((v.read j).pin ≡ q + 1) × (x k b : ℕ) × (t : Bool) × ((v.read j).walk ≡ At x k b t)
    × ((w.born b ≡ 0) ⊎ (q < w.born b))
    × (after ≡ state w n (record v { read = update v.read j (record (v.read j) { walk = Past x k b t }) }))
