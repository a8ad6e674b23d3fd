-- The run that bisects a child of the square: its second round.
use Rattle.std.proofs.Common.{true, false, [], ◌∷◌, refl, inl, inr}
use Rattle.table_words.specs.Claims.{Whole, Living}
use Rattle.table_words.specs.Places.{member_of, child_place}
use Rattle.table_words.specs.Views.{Views, Worker}
use Rattle.table_words.specs.Words.{node}
use Rattle.table_steps.specs.States.{state}
use Rattle.table_steps.specs.Steps.{Step, ByClaimStep, ByDrawStep, ByFillHistory, ByFillName, ByFillDied, ByFillChild, ByLinkFirst, ByPublishStep, ByWorkGoes, ByWorkFinds, ByWorkEnds, ByLoadHead, ByNotePlaces, BySplitStep, ByJoinWorker, ByBeginStep, ByPlanStep, ByCloseStep, ByAdvanceStep, ByUnclaimStep}
use Rattle.table_runs.specs.PatchWords.{name0}
use Rattle.table_runs.specs.SquareTwice as pair
use Rattle.table_runs.specs.SquareTwice.{pair_setup}
use Rattle.table_runs.specs.ChildWords.{child_name, at_child}
use Rattle.table_runs.specs.ChildWords as kid
use Rattle.table_runs.specs.SquareChild.{published, unclaimed, finished2}
use Rattle.table_runs.proofs.SquareLists.{both, none_listed}
use Rattle.table_runs.proofs.SquareMoves.{begun, planned, closed, advanced, worker_made, joined, placed_at, claims_at, draws_for, comes_to, unclaims, owned_head, owned_history, owned_died, owned_name, finds_absent, goes_to, finds_known, knows}
use Rattle.table_runs.proofs.SquareNotes.{lt01, lt02, lt14, en, three, not_less}
use Rattle.table_runs.proofs.SquarePair.{lt23, kids_again, only_one, again_not}
use Rattle.table_runs.proofs.ChildNotes.{child_names, child_plan, child_aim, child_stays, child_needed, child_living, bisects_child, old_child}
use Rattle.table_runs.proofs.SquareTwice1.{u38}

-- round 2: a worker finds element 0 bisected, and its first child not
abbrev pub u39 : Views
u39 = begun child_plan u38

pub s39 : Step pair_setup (state pair.opened 2 u38) (state pair.opened 2 u39)
s39 = ByBeginStep (child_plan, both, refl, child_aim, lt14, refl, refl, refl)

abbrev pub u40 : Views
u40 = worker_made 2 1 u39

pub s40 : Step pair_setup (state pair.opened 2 u39) (state pair.opened 3 u40)
s40 = BySplitStep (Worker, 1, 0, inl (refl, inl refl, refl, refl), 1, false, inr (inr (lt01, refl, refl)), [], (λ k h. absurd h), refl)

abbrev pub u41 : Views
u41 = goes_to 2 0 name0 0 false u40

pub s41 : Step pair_setup (state pair.opened 3 u40) (state pair.opened 3 u41)
s41 = ByWorkGoes (2, refl, 0, name0, 0, node 1 0, inl (inr (inr (lt02, refl)), refl), refl, inl refl, false, refl, refl)

abbrev pub u42 : Views
u42 = finds_known pair_setup 2 name0 0 false u41

pub s42 : Step pair_setup (state pair.opened 3 u41) (state pair.opened 3 u42)
s42 = ByWorkFinds (2, refl, refl, 0, name0, 0, false, refl, lt01, refl)

abbrev pub u43 : Views
u43 = finds_absent 2 child_name u42

pub s43 : Step pair_setup (state pair.opened 3 u42) (state pair.opened 3 u43)
s43 = ByWorkEnds (2, refl, at_child, child_name, node 0 0, inl (inl (inl refl), refl), inl refl, refl)

-- it bisects the child by block 1
abbrev pub u44 : Views
u44 = claims_at 2 at_child 0 u43

pub s44 : Step pair_setup (state pair.opened 3 u43) (state (kid.claimed pair.opened) 3 u44)
s44 = ByClaimStep (2, at_child, 0, child_name, refl, refl, refl, inl (inl refl), inr (inr (inl refl)), inl refl, inl (refl, refl), refl)

abbrev pub u45 : Views
u45 = draws_for 2 at_child 0 1 u44

pub s45 : Step pair_setup (state (kid.claimed pair.opened) 3 u44) (state (kid.drawn pair.opened) 3 u45)
s45 = ByDrawStep (2, at_child, 0, inl refl, refl, lt01, refl)

abbrev pub u46 : Views
u46 = owned_head 2 at_child (node 0 0) u45

pub s46 : Step pair_setup (state (kid.drawn pair.opened) 3 u45) (state (kid.drawn pair.opened) 3 u46)
s46 = ByLoadHead (2, at_child, refl)

abbrev pub u47 : Views
u47 = owned_history 2 (member_of 1 false) (node 0 0) u46

pub s47 : Step pair_setup (state (kid.drawn pair.opened) 3 u46) (state (kid.history0 pair.opened) 3 u47)
s47 = ByFillHistory (2, at_child, 0, 1, inl refl, refl, false, node 0 0, refl)

abbrev pub u48 : Views
u48 = owned_history 2 (member_of 1 true) (node 0 0) u47

pub s48 : Step pair_setup (state (kid.history0 pair.opened) 3 u47) (state (kid.history1 pair.opened) 3 u48)
s48 = ByFillHistory (2, at_child, 0, 1, inl refl, refl, true, node 0 0, refl)

abbrev pub u49 : Views
u49 = owned_died 2 1 0 u48

pub s49 : Step pair_setup (state (kid.history1 pair.opened) 3 u48) (state (kid.undead pair.opened) 3 u49)
s49 = ByFillDied (2, at_child, 0, 1, inl refl, refl, 0, refl)

abbrev pub u50 : Views
u50 = owned_name 2 (member_of 1 false) child_name u49

pub s50 : Step pair_setup (state (kid.undead pair.opened) 3 u49) (state (kid.named0 pair.opened) 3 u50)
s50 = ByFillName (2, at_child, 0, 1, inl refl, refl, false, child_name, refl)

abbrev pub u51 : Views
u51 = owned_name 2 (member_of 1 true) 0 u50

pub s51 : Step pair_setup (state (kid.named0 pair.opened) 3 u50) (state (kid.named1 pair.opened) 3 u51)
s51 = ByFillName (2, at_child, 0, 1, inl refl, refl, true, 0, refl)

abbrev pub u52 : Views
u52 = owned_head 2 (child_place 2 1 false false) (node 0 0) u51

pub s52 : Step pair_setup (state (kid.named1 pair.opened) 3 u51) (state (kid.kid0 pair.opened) 3 u52)
s52 = ByFillChild (2, at_child, 0, 1, inl refl, refl, false, false, node 0 0, refl)

abbrev pub u53 : Views
u53 = owned_head 2 (child_place 2 1 false true) (node 0 0) u52

pub s53 : Step pair_setup (state (kid.kid0 pair.opened) 3 u52) (state (kid.kid1 pair.opened) 3 u53)
s53 = ByFillChild (2, at_child, 0, 1, inl refl, refl, false, true, node 0 0, refl)

abbrev pub u54 : Views
u54 = owned_head 2 (child_place 2 1 true false) (node 0 0) u53

pub s54 : Step pair_setup (state (kid.kid1 pair.opened) 3 u53) (state (kid.kid2 pair.opened) 3 u54)
s54 = ByFillChild (2, at_child, 0, 1, inl refl, refl, true, false, node 0 0, refl)

abbrev pub u55 : Views
u55 = owned_head 2 (child_place 2 1 true true) (node 0 0) u54

pub s55 : Step pair_setup (state (kid.kid2 pair.opened) 3 u54) (state (kid.kid3 pair.opened) 3 u55)
s55 = ByFillChild (2, at_child, 0, 1, inl refl, refl, true, true, node 0 0, refl)

abbrev pub u56 : Views
u56 = comes_to 2 at_child (Whole 1) u55

pub s56 : Step pair_setup (state (kid.kid3 pair.opened) 3 u55) (state (kid.linked pair.opened) 3 u56)
s56 = ByLinkFirst (2, at_child, 0, 1, child_name, inl refl, refl, inl (refl, refl), inr (en 3 2 lt23, inl (refl, refl)), inl (refl, refl), refl, kids_again ((at_child, node 0 0) ∷ []), old_child, inl refl, inl (refl, refl), Whole 1, inr (refl, refl), refl)

abbrev pub u57 : Views
u57 = knows 2 at_child (Living 1) (child_name ∷ name0 ∷ []) u56

pub s57 : Step pair_setup (state (kid.linked pair.opened) 3 u56) (state published 3 u57)
s57 = ByPublishStep (2, at_child, 0, 1, inl refl, refl, child_name ∷ name0 ∷ [], bisects_child, refl)

-- the owner ends the round
abbrev pub u58 : Views
u58 = joined 2 0 u57

pub s58 : Step pair_setup (state published 3 u57) (state published 3 u58)
s58 = ByJoinWorker (2, en 2 0 lt02, refl, 0, refl, refl)

abbrev pub u59 : Views
u59 = planned [] u58

pub s59 : Step pair_setup (state published 3 u58) (state published 3 u59)
s59 = ByPlanStep ([], child_needed, refl, refl, child_living, refl)

abbrev pub u60 : Views
u60 = closed u59

pub s60 : Step pair_setup (state published 3 u59) (state published 3 u60)
s60 = ByCloseStep (none_listed [], refl, refl, refl)

abbrev pub u61 : Views
u61 = placed_at 1 at_child 0 u60

pub s61 : Step pair_setup (state published 3 u60) (state published 3 u61)
s61 = ByNotePlaces (1, at_child, 0, inl refl, refl)

abbrev pub u62 : Views
u62 = unclaims at_child 0 (Living 1) u61

pub s62 : Step pair_setup (state published 3 u61) (state unclaimed 3 u62)
s62 = ByUnclaimStep (three, not_less, at_child, 0, Living 1, inl refl, only_one, again_not, refl)

abbrev pub u63 : Views
u63 = advanced child_names 1 0 u62

pub s63 : Step pair_setup (state unclaimed 3 u62) (state finished2 3 u63)
s63 = ByAdvanceStep (child_names, child_stays, (λ i h _. h), refl, refl, (λ b h. absurd h), refl)
