-- A run of three rounds in which a row that was never drawn is the stock, and is used in the last one without being written again:
-- the patch of the square is bisected, retired, and bisected again, and then its first child. Each line changes one word.
use Rattle.std.specs.Prelude.{◌≡◌, false, List, [], ◌∷◌, ◌++◌}
use Rattle.table_words.specs.Claims.{Drawn, claim}
use Rattle.table_words.specs.Entries.{HasEntry}
use Rattle.table_words.specs.Functions.{update}
use Rattle.table_words.specs.Places.{child_place}
use Rattle.table_words.specs.Words.{Words, node}
use Rattle.table_steps.specs.WorkSteps.{DrawStep}
use Rattle.table_steps.specs.WalkSteps.{WorkPasses, WorkOpen}
use Rattle.table_steps.specs.States.{State}
use Rattle.table_steps.specs.Steps.{Run}
use Rattle.table_runs.specs.SquareRun.{Along}
use Rattle.table_runs.specs.SquareKinds.{fresh_state, RunsTo}
use Rattle.table_runs.specs.SquareTwice.{pair_setup, first_words, stopped, rewound}
use Rattle.table_runs.specs.ChildWords.{child_name, at_child}
use Rattle.table_runs.specs.PatchWords as root
use Rattle.table_runs.specs.ChildWords as kid

-- after round 1, and with row 1 as the stock, a worker of round 2 retires the block, the owner stamps both links and ends the round
abbrev pub retired : Words
retired = let w = rewound in record w { died = update w.died 0 2 }

abbrev pub stamped0 : Words
stamped0 = let w = retired in record w { head = update w.head 0 (node 1 2) }

abbrev pub stamped1 : Words
stamped1 = let w = stamped0 in record w { head = update w.head 1 (node 1 2) }

abbrev pub finished2 : Words
finished2 = let w = stamped1 in record w { round = 2; taken = 0 }

-- and cuts the block out of both chains, and lays it into row 0; row 1 is not written
abbrev pub cut0 : Words
cut0 = let w = finished2 in record w { head = update w.head 0 (node 0 0) }

abbrev pub cut1 : Words
cut1 = let w = cut0 in record w { head = update w.head 1 (node 0 0) }

abbrev pub unborn : Words
unborn = let w = cut1 in record w { born = update w.born 0 0 }

abbrev pub laid : Words
laid = let w = unborn in record w { row = update w.row 0 0 }

abbrev pub opened : Words
opened = let w = laid in record w { free = 2 }

-- round 3: a worker bisects the patch by block 0, and its first child by block 1
abbrev pub bisected : Words
bisected = let w = root.linked1 opened in record w { born = update w.born 0 3 }

abbrev pub bisected_more : Words
bisected_more = let w = kid.linked bisected in record w { born = update w.born 1 3 }

-- the owner ends the claims and the round
abbrev pub unclaimed : Words
unclaimed = let w = bisected_more in record w { claimed = update w.claimed at_child 0 }

abbrev pub unclaimed_all : Words
unclaimed_all = let w = unclaimed in record w { claimed = update w.claimed 0 0 }

abbrev pub finished3 : Words
finished3 = let w = unclaimed_all in record w { round = 3; taken = 0 }

-- the words of the run after its first round, in order: of round 2 and what follows it, of the first half of round 3, and of its end
abbrev pub second_words : List Words
second_words = stopped ∷ rewound ∷ retired ∷ stamped0 ∷ stamped1 ∷ finished2 ∷ cut0 ∷ cut1 ∷ unborn ∷ laid ∷ opened ∷ []

abbrev pub third_words : List Words
third_words = root.bisection opened ++ bisected ∷ kid.bisection bisected ++ bisected_more ∷ []

abbrev pub last_words : List Words
last_words = unclaimed ∷ unclaimed_all ∷ finished3 ∷ []

abbrev pub stock_words : List Words
stock_words = ((first_words ++ second_words) ++ third_words) ++ last_words

-- the law that the run is one: its states come from the fresh one, each by a step from the one before, and have these words
abbrev pub SquareStock : Type 0
SquareStock = (states : List State) × Run pair_setup (fresh_state 2) states × Along (fresh_state 2 ∷ states) stock_words

-- in each of the words row 1 names block 1
abbrev pub KeepRow : List Words → Type 0
KeepRow [] = Unit {0}
KeepRow (w ∷ ws) = (w.row 1 ≡ 1) × KeepRow ws

-- the law that the row of the stock is as it was in the fresh table, all along
abbrev pub RowKept : Type 0
RowKept = KeepRow stock_words

-- the law that it is drawn in round 3: CURSOR is 1, and the claim gets block 1
abbrev pub StockDrawn : Type 0
StockDrawn = (a b : State) × RunsTo 2 a × DrawStep pair_setup a.words a.seats a.views b × (a.words.round ≡ 2) × (a.words.cursor ≡ 1)
    × HasEntry (b.views.claims 3) (claim at_child 0 (Drawn 1))

-- the law of the walks over blocks that were born in the round: where a pass of the second half has come to one it knows where the children
-- are; from there it goes on to the child's block, which was born in the round too; and it finds a name there that is not bisected
pub record GrownWalked : Type 0 where
  pub passes : (a b : State) × RunsTo 2 a × WorkPasses pair_setup a.words a.seats a.views b × HasEntry (b.views.work 4).grown (at_child, child_name)
  pub goes_on : (a b : State) × RunsTo 2 a × WorkOpen pair_setup a.words a.seats a.views b × HasEntry (a.views.work 4).grown (at_child, child_name)
      × HasEntry (b.views.work 4).grown (child_place 2 1 false false, pair_setup.child child_name false)
  pub ends : (a b : State) × RunsTo 2 a × WorkOpen pair_setup a.words a.seats a.views b
      × HasEntry (a.views.work 4).grown (child_place 2 1 false false, pair_setup.child child_name false)
      × HasEntry (b.views.work 4).open_ (pair_setup.child child_name false)
