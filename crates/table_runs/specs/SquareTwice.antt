-- A second run on the square, with two blocks: the patch is bisected, retired, and bisected again while
-- its old block is still behind the new one, until that is cut out. Each line changes one word.
use Rattle.std.specs.Prelude.{ℕ, ◌+◌, ◌≤◌, true, false, List, [], ◌∷◌, ◌++◌, ◌↔◌}
use Rattle.mesh_names.specs.Names.{Name, depth}
use Rattle.table_words.specs.Entries.{HasEntry}
use Rattle.table_words.specs.Functions.{update}
use Rattle.table_words.specs.NameWords.{name_code}
use Rattle.table_words.specs.Places.{member_of, child_place}
use Rattle.table_words.specs.Setup.{Setup}
use Rattle.table_words.specs.Words.{Words, node}
use Rattle.table_state.specs.Fresh.{fresh_words}
use Rattle.table_reading.specs.Reading.{IsRead}
use Rattle.table_steps.specs.States.{State}
use Rattle.table_steps.specs.Steps.{Run}
use Rattle.table_runs.specs.PatchWords.{name0, name1}
use Rattle.table_runs.specs.SquareRun.{Along}
use Rattle.table_runs.specs.SquareKinds.{square_with, fresh_state}
use Rattle.table_runs.specs.PatchWords as root

-- a table over the square with two blocks
abbrev pub pair_setup : Setup
pair_setup = square_with 2

-- round 1: a worker bisects the patch by block 0, and publishes it
abbrev pub published : Words
published = let w = root.linked1 (fresh_words 2) in record w { born = update w.born 0 1 }

-- the owner ends the claim and the round
abbrev pub unclaimed : Words
unclaimed = let w = published in record w { claimed = update w.claimed 0 0 }

abbrev pub finished1 : Words
finished1 = let w = unclaimed in record w { round = 1; taken = 0 }

-- before the next round FREE and CURSOR become 0, and the row that is drawn next gets block 1
abbrev pub stopped : Words
stopped = let w = finished1 in record w { free = 0 }

abbrev pub rewound : Words
rewound = let w = stopped in record w { cursor = 0 }

abbrev pub laid : Words
laid = let w = rewound in record w { row = update w.row 0 1 }

abbrev pub opened : Words
opened = let w = laid in record w { free = 1 }

-- round 2: a worker retires the block, the owner stamps both links and ends the round
abbrev pub retired : Words
retired = let w = opened in record w { died = update w.died 0 2 }

abbrev pub stamped0 : Words
stamped0 = let w = retired in record w { head = update w.head 0 (node 1 2) }

abbrev pub stamped1 : Words
stamped1 = let w = stamped0 in record w { head = update w.head 1 (node 1 2) }

abbrev pub finished2 : Words
finished2 = let w = stamped1 in record w { round = 2; taken = 0 }

-- a reader pins round 2
abbrev pub pinned : Words
pinned = let w = finished2 in record w { taken = w.taken + 1 }

-- round 3: a worker claims the patch again, and draws block 1; its HISTORY words name block 0
abbrev pub claimed_again : Words
claimed_again = let w = pinned in record w { claimed = update w.claimed 0 1 }

abbrev pub drawn_again : Words
drawn_again = let w = claimed_again in record w { cursor = w.cursor + 1 }

abbrev pub history2 : Words
history2 = let w = drawn_again in record w { history = update w.history (member_of 1 false) (node 1 2) }

abbrev pub history3 : Words
history3 = let w = history2 in record w { history = update w.history (member_of 1 true) (node 1 2) }

abbrev pub undead_again : Words
undead_again = let w = history3 in record w { died = update w.died 1 0 }

abbrev pub named2 : Words
named2 = let w = undead_again in record w { name = update w.name (member_of 1 false) name0 }

abbrev pub named3 : Words
named3 = let w = named2 in record w { name = update w.name (member_of 1 true) name1 }

abbrev pub child4 : Words
child4 = let w = named3 in record w { head = update w.head (child_place 2 1 false false) (node 0 0) }

abbrev pub child5 : Words
child5 = let w = child4 in record w { head = update w.head (child_place 2 1 false true) (node 0 0) }

abbrev pub child6 : Words
child6 = let w = child5 in record w { head = update w.head (child_place 2 1 true false) (node 0 0) }

abbrev pub child7 : Words
child7 = let w = child6 in record w { head = update w.head (child_place 2 1 true true) (node 0 0) }

-- it links both members to block 1, and publishes it
abbrev pub linked2 : Words
linked2 = let w = child7 in record w { head = update w.head 0 (node 2 0) }

abbrev pub linked3 : Words
linked3 = let w = linked2 in record w { head = update w.head 1 (node 2 0) }

abbrev pub published_again : Words
published_again = let w = linked3 in record w { born = update w.born 1 3 }

-- the owner ends the claim and the round
abbrev pub unclaimed_again : Words
unclaimed_again = let w = published_again in record w { claimed = update w.claimed 0 0 }

abbrev pub finished3 : Words
finished3 = let w = unclaimed_again in record w { round = 3; taken = 0 }

-- and cuts block 0 out of both chains, while the pin of round 2 is out
abbrev pub cut0 : Words
cut0 = let w = finished3 in record w { history = update w.history (member_of 1 false) (node 0 0) }

abbrev pub cut1 : Words
cut1 = let w = cut0 in record w { history = update w.history (member_of 1 true) (node 0 0) }

-- the words of the first round, in order, those before the second, and those of the rest of the run
abbrev pub first_words : List Words
first_words = fresh_words 2 ∷ root.bisection (fresh_words 2) ++ published ∷ unclaimed ∷ finished1 ∷ []

abbrev pub row_words : List Words
row_words = stopped ∷ rewound ∷ laid ∷ opened ∷ []

abbrev pub opened_words : List Words
opened_words = first_words ++ row_words

abbrev pub rest_words : List Words
rest_words = retired ∷ stamped0 ∷ stamped1 ∷ finished2 ∷ pinned ∷ claimed_again ∷ drawn_again ∷ history2 ∷ history3 ∷ undead_again ∷ named2 ∷ named3 ∷ child4
    ∷ child5 ∷ child6 ∷ child7 ∷ linked2 ∷ linked3 ∷ published_again ∷ unclaimed_again ∷ finished3 ∷ cut0 ∷ cut1 ∷ []

abbrev pub twice_words : List Words
twice_words = opened_words ++ rest_words

-- the law that the run is one: its states come from the fresh one, each by a step from the one before, and have these words
abbrev pub SquareTwice : Type 0
SquareTwice = (states : List State) × Run pair_setup (fresh_state 2) states × Along (fresh_state 2 ∷ states) twice_words

-- exactly the listed names are read from the words at the round q
abbrev pub ReadsNames : Words → ℕ → List ℕ → Type 0
ReadsNames w q names = (n : Name) → IsRead w 2 q n ↔ ((depth n ≤ 24) × HasEntry names (name_code n))

-- the law of what is read in its states, at finished rounds and at the current round: the cuts change nothing of it
pub record TwiceReads : Type 0 where
  pub published : ReadsNames published 1 (name0 ∷ name1 ∷ [])
  pub finished1 : ReadsNames finished1 1 (name0 ∷ name1 ∷ [])
  pub retired : ReadsNames retired 1 (name0 ∷ name1 ∷ []) × ReadsNames retired 2 []
  pub stamped : ReadsNames stamped1 1 (name0 ∷ name1 ∷ [])
  pub finished2 : ReadsNames finished2 2 []
  pub linked_again : ReadsNames linked3 2 []
  pub published_again : ReadsNames published_again 2 [] × ReadsNames published_again 3 (name0 ∷ name1 ∷ [])
  pub finished3 : ReadsNames finished3 2 [] × ReadsNames finished3 3 (name0 ∷ name1 ∷ [])
  pub cut : ReadsNames cut1 2 [] × ReadsNames cut1 3 (name0 ∷ name1 ∷ [])
