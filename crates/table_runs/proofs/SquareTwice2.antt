-- The run that bisects the patch of the square twice: round 2, and a pin.
use Rattle.std.proofs.Common.{◌++◌, true, false, [], ◌∷◌, refl, inl, inr, arith}
use Rattle.table_words.specs.Places.{child_place}
use Rattle.table_words.specs.Views.{Views, Worker, Reader}
use Rattle.table_words.specs.Words.{node}
use Rattle.table_steps.specs.WorkSteps.{RetiredStep}
use Rattle.table_steps.specs.WalkSteps.{WorkDead}
use Rattle.table_steps.specs.States.{state}
use Rattle.table_steps.specs.Steps.{Step, ByRetireStep, ByRetiredStep, ByWorkGoes, ByWorkHad, ByWorkGives, ByWorkDead, ByWorkOpen, ByLoadHead, ByLoadDied, ByLoadRound, ByPinStep, BySplitStep, ByJoinWorker, ByBeginStep, ByPlanStep, ByCloseStep, ByAdvanceStep, ByStampStep}
use Rattle.table_runs.specs.PatchWords.{name0, name1}
use Rattle.table_runs.specs.SquareTwice.{pair_setup, opened, retired, stamped0, stamped1, finished2, pinned}
use Rattle.table_runs.proofs.SquareLists.{both, second_plan, none_stays}
use Rattle.table_runs.proofs.SquareMoves.{begun, planned, closed, advanced, worker_made, reader_made, joined, owned_head, owned_died, goes_to, finds_had, is_given, opens, retires, opens_all, sees_round, pins_round}
use Rattle.table_runs.proofs.SquareNotes.{lt01, lt02, lt12, lt14, le01, many, ne, en, no_claim, open4, children0, children1, newly, both_stamped}
use Rattle.table_runs.proofs.SquarePair.{pair_second, newly_known, both_known}
use Rattle.table_runs.proofs.SquareTwice1.{u38}

-- round 2: the patch is retired, and a second pass finds it so
abbrev pub u39 : Views
u39 = begun second_plan u38

pub s39 : Step pair_setup (state opened 2 u38) (state opened 2 u39)
s39 = ByBeginStep (second_plan, both, refl, pair_second, lt14, refl, refl, refl)

abbrev pub u40 : Views
u40 = planned (name0 ∷ []) u39

pub s40 : Step pair_setup (state opened 2 u39) (state opened 2 u40)
s40 = ByPlanStep (name0 ∷ [], (λ i h. h), refl, refl, no_claim, refl)

abbrev pub u41 : Views
u41 = worker_made 2 1 u40

pub s41 : Step pair_setup (state opened 2 u40) (state opened 3 u41)
s41 = BySplitStep (Worker, 1, 0, inl (refl, inr refl, refl, refl), 1, false, inl (inr refl, refl), [], (λ k h. absurd h), refl)

abbrev pub u42 : Views
u42 = goes_to 2 0 name0 0 false u41

pub s42 : Step pair_setup (state opened 3 u41) (state opened 3 u42)
s42 = ByWorkGoes (2, refl, 0, name0, 0, node 1 0, inl (inr (inr (lt02, refl)), refl), refl, inl refl, false, refl, refl)

abbrev pub u43 : Views
u43 = finds_had pair_setup 2 name0 0 false u42

pub s43 : Step pair_setup (state opened 3 u42) (state opened 3 u43)
s43 = ByWorkHad (2, refl, 0, name0, 0, false, refl, refl, lt01, lt12, refl)

abbrev pub u44 : Views
u44 = goes_to 2 1 name1 0 true u43

pub s44 : Step pair_setup (state opened 3 u43) (state opened 3 u44)
s44 = ByWorkGoes (2, refl, 1, name1, 0, node 1 0, inl (inr (inr (lt12, refl)), refl), refl, inl refl, true, refl, refl)

abbrev pub u45 : Views
u45 = finds_had pair_setup 2 name1 0 true u44

pub s45 : Step pair_setup (state opened 3 u44) (state opened 3 u45)
s45 = ByWorkHad (2, refl, 1, name1, 0, true, refl, refl, lt01, lt12, refl)

abbrev pub u46 : Views
u46 = is_given 2 0 name0 u45

pub s46 : Step pair_setup (state opened 3 u45) (state opened 3 u46)
s46 = ByWorkGives (2, refl, refl, 0, name0, refl, inr (inl refl), refl)

abbrev pub u47 : Views
u47 = opens 2 (pair_setup.child name1 true) u46

pub s47 : Step pair_setup (state opened 3 u46) (state opened 3 u47)
s47 = ByWorkOpen (2, refl, refl, child_place 2 0 true true, pair_setup.child name1 true, inl (inr (inl refl)), _, _, inl (inl refl, refl, refl), refl)

abbrev pub u48 : Views
u48 = opens 2 (pair_setup.child name1 false) u47

pub s48 : Step pair_setup (state opened 3 u47) (state opened 3 u48)
s48 = ByWorkOpen (2, refl, refl, child_place 2 0 true false, pair_setup.child name1 false, inl (inl refl), _, _, inl (inl refl, refl, refl), refl)

abbrev pub u49 : Views
u49 = opens 2 (pair_setup.child name0 true) u48

pub s49 : Step pair_setup (state opened 3 u48) (state opened 3 u49)
s49 = ByWorkOpen (2, refl, refl, child_place 2 0 false true, pair_setup.child name0 true, inl (inr (inr (inr (inl refl)))), _, _, inl (inl refl, refl, refl), refl)

abbrev pub u50 : Views
u50 = opens 2 (pair_setup.child name0 false) u49

pub s50 : Step pair_setup (state opened 3 u49) (state opened 3 u50)
s50 = ByWorkOpen (2, refl, refl, child_place 2 0 false false, pair_setup.child name0 false, inl (inr (inr (inl refl))), _, _, inl (inl refl, refl, refl), refl)

abbrev pub u51 : Views
u51 = retires 2 0 (name0 ∷ name1 ∷ open4) u50

pub s51 : Step pair_setup (state opened 3 u50) (state retired 3 u51)
s51 = ByRetireStep (2, 0, name0, inl refl, refl, inl refl, refl, children0, children1, name0 ∷ name1 ∷ open4, newly, refl)

abbrev pub u52 : Views
u52 = worker_made 3 2 u51

pub s52 : Step pair_setup (state retired 3 u51) (state retired 4 u52)
s52 = BySplitStep (Worker, 2, 0, inl (refl, inr refl, refl, refl), 2, false, inl (inr refl, refl), [], (λ k h. absurd h), refl)

abbrev pub u53 : Views
u53 = goes_to 3 0 name0 0 false u52

pub s53 : Step pair_setup (state retired 4 u52) (state retired 4 u53)
s53 = ByWorkGoes (3, refl, 0, name0, 0, node 1 0, inl (inr (inr (lt02, refl)), refl), refl, inl refl, false, refl, refl)

abbrev pub u54 : Views
u54 = finds_had pair_setup 3 name0 0 false u53

pub s54 : Step pair_setup (state retired 4 u53) (state retired 4 u54)
s54 = ByWorkHad (3, refl, 0, name0, 0, false, refl, refl, lt01, lt12, refl)

abbrev pub u55 : Views
u55 = opens 3 name0 u54

pub k55 : WorkDead pair_setup retired 4 u54 (state retired 4 u55)
k55 = (3, refl, refl, 0, name0, inl refl, lt02, refl)

pub s55 : Step pair_setup (state retired 4 u54) (state retired 4 u55)
s55 = ByWorkDead k55

abbrev pub u56 : Views
u56 = is_given 3 0 name0 u55

pub s56 : Step pair_setup (state retired 4 u55) (state retired 4 u56)
s56 = ByWorkGives (3, refl, refl, 0, name0, refl, inl refl, refl)

abbrev pub u57 : Views
u57 = opens_all 3 (name0 ∷ name1 ∷ name0 ∷ []) u56

pub k57 : RetiredStep pair_setup retired 4 u56 (state retired 4 u57)
k57 = (3, refl, refl, 0, name0, inl refl, lt02, name0 ∷ name1 ∷ name0 ∷ [], newly_known (name0 ∷ []), refl)

pub s57 : Step pair_setup (state retired 4 u56) (state retired 4 u57)
s57 = ByRetiredStep k57

abbrev pub u58 : Views
u58 = joined 2 1 u57

pub s58 : Step pair_setup (state retired 4 u57) (state retired 4 u58)
s58 = ByJoinWorker (2, en 2 0 (omega arith), refl, 1, refl, refl)

abbrev pub u59 : Views
u59 = joined 3 0 u58

pub s59 : Step pair_setup (state retired 4 u58) (state retired 4 u59)
s59 = ByJoinWorker (3, en 3 0 (omega arith), refl, 0, refl, refl)

abbrev pub u60 : Views
u60 = closed u59

pub s60 : Step pair_setup (state retired 4 u59) (state retired 4 u60)
s60 = ByCloseStep (both_known (open4 ++ name0 ∷ name1 ∷ name0 ∷ []), refl, refl, refl)

abbrev pub u61 : Views
u61 = owned_head 0 0 (node 1 0) u60

pub s61 : Step pair_setup (state retired 4 u60) (state retired 4 u61)
s61 = ByLoadHead (0, 0, refl)

abbrev pub u62 : Views
u62 = owned_head 0 1 (node 1 0) u61

pub s62 : Step pair_setup (state retired 4 u61) (state retired 4 u62)
s62 = ByLoadHead (0, 1, refl)

abbrev pub u63 : Views
u63 = owned_died 0 0 2 u62

pub s63 : Step pair_setup (state retired 4 u62) (state retired 4 u63)
s63 = ByLoadDied (0, 0, refl)

abbrev pub u64 : Views
u64 = owned_head 0 0 (node 1 2) u63

pub s64 : Step pair_setup (state retired 4 u63) (state stamped0 4 u64)
s64 = ByStampStep (refl, 0, 0, 0, 2, false, inl refl, (λ h. h), refl, inr (en 1 0 lt01, inl (refl, refl)), inl (refl, refl), refl)

abbrev pub u65 : Views
u65 = owned_head 0 1 (node 1 2) u64

pub s65 : Step pair_setup (state stamped0 4 u64) (state stamped1 4 u65)
s65 = ByStampStep (refl, 1, 0, 0, 2, true, inl refl, (λ h. h), refl, inr (ne 0 1 lt01, inl (refl, refl)), inl (refl, refl), refl)

abbrev pub u66 : Views
u66 = advanced [] 1 0 u65

pub s66 : Step pair_setup (state stamped1 4 u65) (state finished2 4 u66)
s66 = ByAdvanceStep ([], (λ i h. absurd h), none_stays, refl, refl, both_stamped, refl)

-- a reader pins round 2
abbrev pub u67 : Views
u67 = reader_made 4 u66

pub s67 : Step pair_setup (state finished2 4 u66) (state finished2 5 u67)
s67 = BySplitStep (Reader, 0, 1, inr (refl, le01, refl, refl), 1, false, inl (inl refl, refl), [], (λ k h. absurd h), refl)

abbrev pub u68 : Views
u68 = sees_round 4 true 2 u67

pub s68 : Step pair_setup (state finished2 5 u67) (state finished2 5 u68)
s68 = ByLoadRound (4, refl, true, inl (refl, many), refl)

abbrev pub u69 : Views
u69 = pins_round 4 2 u68

pub s69 : Step pair_setup (state finished2 5 u68) (state pinned 5 u69)
s69 = ByPinStep (4, refl, refl, refl, refl)
