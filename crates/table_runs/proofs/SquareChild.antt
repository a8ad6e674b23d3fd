-- The run that bisects a child of the square, as a whole.
use Rattle.std.proofs.Common.{◌++◌, List, [], ◌∷◌, refl, inl, inr}
use Rattle.table_steps.specs.States.{State, state}
use Rattle.table_steps.specs.Steps.{Run}
use Rattle.table_runs.specs.SquareKinds.{fresh_state}
use Rattle.table_runs.specs.SquareRun.{Along}
use Rattle.table_runs.specs.SquareTwice as pair
use Rattle.table_runs.specs.SquareTwice.{pair_setup}
use Rattle.table_runs.specs.ChildWords as kid
use Rattle.table_runs.specs.SquareChild.{SquareChild, rest_words, child_words, published, unclaimed, finished2}
use Rattle.table_runs.proofs.Segments.{run_append, along_on}
use Rattle.table_runs.proofs.SquareTwice1.{opened_states, opened_run, opened_along}
use Rattle.table_runs.proofs.SquareChild1.{u39, u40, u41, u42, u43, u44, u45, u46, u47, u48, u49, u50, u51, u52, u53, u54, u55, u56, u57, u58, u59, u60, u61, u62, u63, s39, s40, s41, s42, s43, s44, s45, s46, s47, s48, s49, s50, s51, s52, s53, s54, s55, s56, s57, s58, s59, s60, s61, s62, s63}

abbrev rest_states : List State
rest_states = state pair.opened 2 u39 ∷ state pair.opened 3 u40 ∷ state pair.opened 3 u41 ∷ state pair.opened 3 u42 ∷ state pair.opened 3 u43 ∷ state (kid.claimed pair.opened) 3 u44 ∷ state (kid.drawn pair.opened) 3 u45 ∷ state (kid.drawn pair.opened) 3 u46 ∷ state (kid.history0 pair.opened) 3 u47 ∷ state (kid.history1 pair.opened) 3 u48 ∷ state (kid.undead pair.opened) 3 u49 ∷ state (kid.named0 pair.opened) 3 u50 ∷ state (kid.named1 pair.opened) 3 u51 ∷ state (kid.kid0 pair.opened) 3 u52 ∷ state (kid.kid1 pair.opened) 3 u53 ∷ state (kid.kid2 pair.opened) 3 u54 ∷ state (kid.kid3 pair.opened) 3 u55 ∷ state (kid.linked pair.opened) 3 u56 ∷ state published 3 u57 ∷ state published 3 u58 ∷ state published 3 u59 ∷ state published 3 u60 ∷ state published 3 u61 ∷ state unclaimed 3 u62 ∷ state finished2 3 u63 ∷ []

abbrev pub child_states : List State
child_states = opened_states ++ rest_states

pub child_run : Run pair_setup (fresh_state 2) child_states
child_run = run_append pair_setup (fresh_state 2) opened_states rest_states opened_run (s39, (s40, (s41, (s42, (s43, (s44, (s45, (s46, (s47, (s48, (s49, (s50, (s51, (s52, (s53, (s54, (s55, (s56, (s57, (s58, (s59, (s60, (s61, (s62, (s63, tt)))))))))))))))))))))))))

rest_along : Along rest_states (pair.opened ∷ rest_words)
rest_along = (refl, inr (refl, inr (refl, inr (refl, inr (refl, inl (refl, inl (refl, inr (refl, inl (refl, inl (refl, inl (refl, inl (refl, inl (refl, inl (refl, inl (refl, inl (refl, inl (refl, inl (refl, inl (refl, inr (refl, inr (refl, inr (refl, inr (refl, inl (refl, inl (refl, inl refl)))))))))))))))))))))))))

pub child_along : Along (fresh_state 2 ∷ child_states) child_words
child_along = along_on (fresh_state 2) opened_states rest_states pair.opened pair.opened_words rest_words opened_along rest_along

pub square_child : SquareChild
square_child = (child_states, child_run, child_along)
