-- A run that goes on from the child's: the child's block is retired, stamped, cut out of its place's
-- chain and freed, while no word of the other places is looked at. Each line changes one word.
use Rattle.std.specs.Prelude.{◌≡◌, ℕ, ◌/◌, List, [], ◌∷◌, ◌++◌}
use Rattle.table_words.specs.Entries.{HasEntry}
use Rattle.table_words.specs.Functions.{update}
use Rattle.table_words.specs.Views.{Owned}
use Rattle.table_words.specs.Words.{Words, Node, node}
use Rattle.table_steps.specs.States.{State}
use Rattle.table_steps.specs.Steps.{Run}
use Rattle.table_steps.specs.SweepSteps.{FreeStep}
use Rattle.table_runs.specs.SquareRun.{Along}
use Rattle.table_runs.specs.SquareKinds.{fresh_state, RunsTo}
use Rattle.table_runs.specs.SquareTwice.{pair_setup}
use Rattle.table_runs.specs.ChildWords.{at_child}
use Rattle.table_runs.specs.SquareChild.{finished2, child_words}

-- before round 3 FREE and CURSOR become 0
abbrev pub stopped : Words
stopped = let w = finished2 in record w { free = 0 }

abbrev pub rewound : Words
rewound = let w = stopped in record w { cursor = 0 }

-- round 3: a worker retires the child's block, the owner stamps the one link and ends the round
abbrev pub retired : Words
retired = let w = rewound in record w { died = update w.died 1 3 }

abbrev pub stamped : Words
stamped = let w = retired in record w { head = update w.head at_child (node 2 3) }

abbrev pub finished3 : Words
finished3 = let w = stamped in record w { round = 3; taken = 0 }

-- and cuts the block out
abbrev pub cut : Words
cut = let w = finished3 in record w { head = update w.head at_child (node 0 0) }

-- these words in order, after those of the child's run
abbrev pub last_words : List Words
last_words = stopped ∷ rewound ∷ retired ∷ stamped ∷ finished3 ∷ cut ∷ []

abbrev pub freed_words : List Words
freed_words = child_words ++ last_words

-- the law that the run is one: its states come from the fresh one, each by a step from the one before, and have these words
abbrev pub SquareFreed : Type 0
SquareFreed = (states : List State) × Run pair_setup (fresh_state 2) states × Along (fresh_state 2 ∷ states) freed_words

-- the words that a seat owns are of this place's LINK word and of words of this block alone
abbrev pub LooksAt : Owned → ℕ → ℕ → Type 0
LooksAt u x b = ((y : ℕ) (l : Node) → HasEntry u.head (y, l) → y ≡ x) × ((i : ℕ) (l : Node) → HasEntry u.history (i, l) → i / 2 ≡ b)
    × ((c k : ℕ) → HasEntry u.died (c, k) → c ≡ b)
    × ((c k : ℕ) → HasEntry u.born (c, k) → c ≡ b) × ((i k : ℕ) → HasEntry u.name (i, k) → i / 2 ≡ b) × ((i k : ℕ) → HasEntry u.row (i, k) → ⊥)

-- the law that at its end the block is freed by what the owner knows of the child's place
-- alone: of the square's own block, which stays noted with its places, it knows no word
abbrev pub FreesAlone : Type 0
FreesAlone = (a b : State) × RunsTo 2 a × (a.words ≡ cut) × FreeStep pair_setup a.words a.seats a.views b × LooksAt (a.views.owned 0) at_child 1
    × HasEntry b.views.ruling.hand 1 × HasEntry b.views.ruling.placed (0, 0, 2)
