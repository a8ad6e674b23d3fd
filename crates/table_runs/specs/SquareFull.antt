-- Two runs on the square, with one block, whose last round is refused. Each line changes one word.
use Rattle.std.specs.Prelude.{◌+◌, List, [], ◌∷◌}
use Rattle.table_words.specs.Functions.{update}
use Rattle.table_words.specs.Words.{Words}
use Rattle.table_state.specs.Fresh.{fresh_words}
use Rattle.table_steps.specs.States.{State}
use Rattle.table_steps.specs.Steps.{Run}
use Rattle.table_runs.specs.SquareKinds.{fresh_state}
use Rattle.table_runs.specs.SquareRun.{Along, square_setup, claimed, drawn, history0, history1, undead, named0, named1, child0, child1, child2, child3}
use Rattle.table_runs.specs.SquareRun.{linked0, linked1, published, unclaimed, finished1, stopped, rewound, pinned, retired, stamped0, stamped1, finished2}

-- after round 2 FREE is still 0: a worker claims the patch, and its draw finds no block
abbrev pub claimed_full : Words
claimed_full = let w = finished2 in record w { claimed = update w.claimed 0 1 }

abbrev pub drawn_none : Words
drawn_none = let w = claimed_full in record w { cursor = w.cursor + 1 }

-- the round is refused, and the claim ends
abbrev pub unclaimed_full : Words
unclaimed_full = let w = drawn_none in record w { claimed = update w.claimed 0 0 }

-- the law that the run with the full pool is one
abbrev pub SquareFull : Type 0
SquareFull = (states : List State) × Run square_setup (fresh_state 1) states
    × Along (fresh_state 1 ∷ states) (fresh_words 1 ∷ claimed ∷ drawn ∷ history0 ∷ history1 ∷ undead ∷ named0 ∷ named1 ∷ child0 ∷ child1 ∷ child2 ∷ child3
    ∷ linked0 ∷ linked1 ∷ published ∷ unclaimed ∷ finished1 ∷ stopped ∷ rewound ∷ pinned ∷ retired ∷ stamped0 ∷ stamped1 ∷ finished2 ∷ claimed_full
    ∷ drawn_none ∷ unclaimed_full ∷ [])

-- in the other the round is refused once the block was drawn, and the claim ends with it
abbrev pub undrawn : Words
undrawn = let w = drawn in record w { claimed = update w.claimed 0 0 }

-- the law that this run is one
abbrev pub SquareUndrawn : Type 0
SquareUndrawn = (states : List State) × Run square_setup (fresh_state 1) states
    × Along (fresh_state 1 ∷ states) (fresh_words 1 ∷ claimed ∷ drawn ∷ undrawn ∷ [])
