-- The run that uses a row of the stock: the second half of round 3, and the run as a whole.
use Rattle.std.proofs.Common.{◌++◌, false, List, [], ◌∷◌, refl, inl, inr}
use Rattle.table_words.specs.Claims.{Living}
use Rattle.table_words.specs.Places.{child_place}
use Rattle.table_words.specs.Views.{Views, Worker}
use Rattle.table_words.specs.Words.{node}
use Rattle.table_steps.specs.WalkSteps.{WorkPasses, WorkOpen}
use Rattle.table_steps.specs.States.{State, state}
use Rattle.table_steps.specs.Steps.{Run, Step, ByAdvanceStep, ByCloseStep, ByJoinWorker, ByPlanStep, BySplitStep, ByUnclaimStep, ByWorkGoes, ByWorkOpen, ByWorkPasses}
use Rattle.table_runs.specs.PatchWords.{name0}
use Rattle.table_runs.specs.SquareRun.{Along}
use Rattle.table_runs.specs.SquareTwice.{pair_setup, finished1}
use Rattle.table_runs.specs.ChildWords.{child_name, at_child}
use Rattle.table_runs.specs.ChildWords as kid
use Rattle.table_runs.proofs.SquareMoves.{planned, closed, advanced, worker_made, joined, unclaims, goes_to, passes_grown, grows, opens}
use Rattle.table_runs.specs.SquareKinds.{fresh_state}
use Rattle.table_runs.specs.SquareStock.{SquareStock, StockDrawn, GrownWalked, RowKept, second_words, third_words, last_words, opened, bisected, bisected_more, unclaimed, unclaimed_all, finished3}
use Rattle.table_runs.specs.SquareTwice.{first_words}
use Rattle.table_runs.proofs.SquareNotes.{lt02, lt03, lt04, en, three, not_less, only_zero, not_living}
use Rattle.table_runs.proofs.SquarePair.{only_one, again_not}
use Rattle.table_runs.proofs.ChildNotes.{child_names, child_stays}
use Rattle.table_runs.proofs.StockNotes.{le33, third_needed, both_living}
use Rattle.table_runs.proofs.Segments.{run_append, along_on}
use Rattle.table_runs.proofs.SquareKinds.{reach}
use Rattle.table_runs.proofs.SquareTwice1.{first_states, first_run, first_along}
use Rattle.table_runs.proofs.SquareStock1.{second_states, second_run, second_along}
use Rattle.table_runs.proofs.SquareStock2.{third_states, third_run, third_along, u98, u85, u86, k86}

-- in the second half another pass walks over both blocks, which were born in the round
abbrev pub u99 : Views
u99 = joined 3 0 u98

pub s99 : Step pair_setup (state bisected_more 4 u98) (state bisected_more 4 u99)
s99 = ByJoinWorker (3, en 3 0 lt03, refl, 0, refl, refl)

abbrev pub u100 : Views
u100 = planned [] u99

pub s100 : Step pair_setup (state bisected_more 4 u99) (state bisected_more 4 u100)
s100 = ByPlanStep ([], third_needed, refl, refl, both_living, refl)

abbrev pub u101 : Views
u101 = worker_made 4 1 u100

pub s101 : Step pair_setup (state bisected_more 4 u100) (state bisected_more 5 u101)
s101 = BySplitStep (Worker, 1, 0, inl (refl, inr refl, refl, refl), 1, false, inl (inr refl, refl), [], (λ k h. absurd h), refl)

abbrev pub u102 : Views
u102 = goes_to 4 0 name0 0 false u101

pub s102 : Step pair_setup (state bisected_more 5 u101) (state bisected_more 5 u102)
s102 = ByWorkGoes (4, refl, 0, name0, 0, node 1 0, inl (inr (inr (lt02, refl)), refl), refl, inl refl, false, refl, refl)

abbrev pub u103 : Views
u103 = passes_grown pair_setup 4 0 name0 0 false u102

pub k103 : WorkPasses pair_setup bisected_more 5 u102 (state bisected_more 5 u103)
k103 = (4, refl, 0, name0, 0, false, refl, inr le33, _, inr (refl, le33, refl), refl)

pub s103 : Step pair_setup (state bisected_more 5 u102) (state bisected_more 5 u103)
s103 = ByWorkPasses k103

abbrev pub u104 : Views
u104 = grows pair_setup 4 child_name 1 false u103

pub k104 : WorkOpen pair_setup bisected_more 5 u103 (state bisected_more 5 u104)
k104 = (4, refl, refl, at_child, child_name, inr (inl refl), _, _, inr (1, false, inl refl, refl, refl, refl, refl), refl)

pub s104 : Step pair_setup (state bisected_more 5 u103) (state bisected_more 5 u104)
s104 = ByWorkOpen k104

abbrev pub u105 : Views
u105 = opens 4 (pair_setup.child child_name false) u104

pub k105 : WorkOpen pair_setup bisected_more 5 u104 (state bisected_more 5 u105)
k105 = (4, refl, refl, child_place 2 1 false false, pair_setup.child child_name false, inr (inl refl), _, _, inl (inl refl, refl, refl), refl)

pub s105 : Step pair_setup (state bisected_more 5 u104) (state bisected_more 5 u105)
s105 = ByWorkOpen k105

abbrev pub u106 : Views
u106 = joined 4 0 u105

pub s106 : Step pair_setup (state bisected_more 5 u105) (state bisected_more 5 u106)
s106 = ByJoinWorker (4, en 4 0 lt04, refl, 0, refl, refl)

abbrev pub u107 : Views
u107 = closed u106

pub s107 : Step pair_setup (state bisected_more 5 u106) (state bisected_more 5 u107)
s107 = ByCloseStep ((λ i h. absurd h.1), refl, refl, refl)

-- the claims end, and the round
abbrev pub u108 : Views
u108 = unclaims at_child 0 (Living 1) u107

pub s108 : Step pair_setup (state bisected_more 5 u107) (state unclaimed 5 u108)
s108 = ByUnclaimStep (three, not_less, at_child, 0, Living 1, inl refl, only_one, again_not, refl)

abbrev pub u109 : Views
u109 = unclaims 0 2 (Living 0) u108

pub s109 : Step pair_setup (state unclaimed 5 u108) (state unclaimed_all 5 u109)
s109 = ByUnclaimStep (three, not_less, 0, 2, Living 0, inl refl, only_zero, not_living, refl)

abbrev pub u110 : Views
u110 = advanced child_names 2 0 u109

pub s110 : Step pair_setup (state unclaimed_all 5 u109) (state finished3 5 u110)
s110 = ByAdvanceStep (child_names, child_stays, (λ i h _. h), refl, refl, (λ b h. absurd h), refl)

abbrev last_states : List State
last_states = state bisected_more 4 u99 ∷ state bisected_more 4 u100 ∷ state bisected_more 5 u101 ∷ state bisected_more 5 u102 ∷ state bisected_more 5 u103 ∷ state bisected_more 5 u104 ∷ state bisected_more 5 u105 ∷ state bisected_more 5 u106 ∷ state bisected_more 5 u107 ∷ state unclaimed 5 u108 ∷ state unclaimed_all 5 u109 ∷ state finished3 5 u110 ∷ []

last_along : Along last_states (bisected_more ∷ last_words)
last_along = (refl, inr (refl, inr (refl, inr (refl, inr (refl, inr (refl, inr (refl, inr (refl, inr (refl, inl (refl, inl (refl, inl (refl, inl refl))))))))))))

-- the parts one after the other
abbrev two_rounds : List State
two_rounds = first_states ++ second_states

abbrev first_half : List State
first_half = two_rounds ++ third_states

abbrev pub stock_states : List State
stock_states = first_half ++ last_states

two_rounds_run : Run pair_setup (fresh_state 2) two_rounds
two_rounds_run = run_append pair_setup (fresh_state 2) first_states second_states first_run second_run

first_half_run : Run pair_setup (fresh_state 2) first_half
first_half_run = run_append pair_setup (fresh_state 2) two_rounds third_states two_rounds_run third_run

pub stock_run : Run pair_setup (fresh_state 2) stock_states
stock_run = run_append pair_setup (fresh_state 2) first_half last_states first_half_run (s99, (s100, (s101, (s102, (s103, (s104, (s105, (s106, (s107, (s108, (s109, (s110, tt))))))))))))

two_rounds_along : Along (fresh_state 2 ∷ two_rounds) (first_words ++ second_words)
two_rounds_along = along_on (fresh_state 2) first_states second_states finished1 first_words second_words first_along second_along

first_half_along : Along (fresh_state 2 ∷ first_half) ((first_words ++ second_words) ++ third_words)
first_half_along = along_on (fresh_state 2) two_rounds third_states opened (first_words ++ second_words) third_words two_rounds_along third_along

pub square_stock : SquareStock
square_stock = (stock_states, stock_run, along_on (fresh_state 2) first_half last_states bisected_more ((first_words ++ second_words) ++ third_words) last_words first_half_along last_along)

pub row_kept : RowKept
row_kept = (refl, (refl, (refl, (refl, (refl, (refl, (refl, (refl, (refl, (refl, (refl, (refl, (refl, (refl, (refl, (refl, (refl, (refl, (refl, (refl, (refl, (refl, (refl, (refl, (refl, (refl, (refl, (refl, (refl, (refl, (refl, (refl, (refl, (refl, (refl, (refl, (refl, (refl, (refl, (refl, (refl, (refl, (refl, (refl, (refl, (refl, (refl, (refl, (refl, (refl, (refl, (refl, (refl, (refl, (refl, (refl, (refl, (refl, tt))))))))))))))))))))))))))))))))))))))))))))))))))))))))))

pub stock_drawn : StockDrawn
stock_drawn = (state (kid.claimed bisected) 4 u85, state (kid.drawn bisected) 4 u86, reach 2 stock_states stock_run 85, k86, refl, refl, inl refl)

pub grown_walked : GrownWalked
grown_walked = record {
  passes = (state bisected_more 5 u102, state bisected_more 5 u103, reach 2 stock_states stock_run 102, k103, inl refl);
  goes_on = (state bisected_more 5 u103, state bisected_more 5 u104, reach 2 stock_states stock_run 103, k104, inl refl, inl refl);
  ends = (state bisected_more 5 u104, state bisected_more 5 u105, reach 2 stock_states stock_run 104, k105, inl refl, inl refl);
}
