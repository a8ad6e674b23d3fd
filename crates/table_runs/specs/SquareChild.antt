-- A further run with two blocks: after the patch of the square its first child is bisected, whose
-- refinement edge is of the boundary, so that it is a patch of one member. Each line changes one word.
use Rattle.std.specs.Prelude.{List, [], ◌∷◌, ◌++◌}
use Rattle.table_words.specs.Functions.{update}
use Rattle.table_words.specs.Words.{Words}
use Rattle.table_steps.specs.States.{State}
use Rattle.table_steps.specs.Steps.{Run}
use Rattle.table_runs.specs.PatchWords.{name0, name1}
use Rattle.table_runs.specs.SquareRun.{Along}
use Rattle.table_runs.specs.SquareKinds.{fresh_state}
use Rattle.table_runs.specs.ChildWords as kid
use Rattle.table_runs.specs.ChildWords.{child_name, at_child}
use Rattle.table_runs.specs.SquareTwice as pair
use Rattle.table_runs.specs.SquareTwice.{pair_setup, ReadsNames}

-- round 2: a worker bisects the child by block 1, and publishes it
abbrev pub published : Words
published = let w = kid.linked pair.opened in record w { born = update w.born 1 2 }

-- the owner ends the claim and the round
abbrev pub unclaimed : Words
unclaimed = let w = published in record w { claimed = update w.claimed at_child 0 }

abbrev pub finished2 : Words
finished2 = let w = unclaimed in record w { round = 2; taken = 0 }

-- these words in order, after those with which the other run begins
abbrev pub rest_words : List Words
rest_words = kid.bisection pair.opened ++ published ∷ unclaimed ∷ finished2 ∷ []

abbrev pub child_words : List Words
child_words = pair.opened_words ++ rest_words

-- the law that the run is one: its states come from the fresh one, each by a step from the one before, and have these words
abbrev pub SquareChild : Type 0
SquareChild = (states : List State) × Run pair_setup (fresh_state 2) states × Along (fresh_state 2 ∷ states) child_words

-- the law of what is read in its states: the child is read at round 2 from its publication on, and not at round 1
pub record ChildReads : Type 0 where
  pub linked : ReadsNames (kid.linked pair.opened) 1 (name0 ∷ name1 ∷ [])
  pub published : ReadsNames published 1 (name0 ∷ name1 ∷ []) × ReadsNames published 2 (name0 ∷ name1 ∷ child_name ∷ [])
  pub finished2 : ReadsNames finished2 2 (name0 ∷ name1 ∷ child_name ∷ [])
