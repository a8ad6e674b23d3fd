-- The square's run, round 2: each state comes by a step from the one before.
use Rattle.std.proofs.Common.{true, false, [], ◌∷◌, refl, inl, inr}
use Rattle.table_words.specs.Places.{child_place}
use Rattle.table_words.specs.Words.{node}
use Rattle.table_runs.specs.PatchWords.{name0, name1}
use Rattle.table_runs.specs.SquareRun.{square_setup, finished1, stopped, rewound, pinned, retired, stamped0, stamped1, finished2}
use Rattle.table_runs.proofs.SquareLists.{both, second_plan, second_aim, both_open, none_stays}
use Rattle.table_runs.proofs.SquareNotes.{lt14, both_stamped, children0, children1, en, le00, le01, lt01, lt02, lt03, lt12, many, ne, newly, no_claim, no_head, no_half}
use Rattle.table_steps.specs.WorkSteps.{RetireStep}
use Rattle.table_steps.specs.WalkSteps.{WorkGoes, WorkHad, WorkBoth, WorkGives, WorkOpen, LoadDied, LoadRow}
use Rattle.table_steps.specs.PinSteps.{LoadRound, PinStep}
use Rattle.table_steps.specs.OwnerSteps.{LoadCursor, LoadFree}
use Rattle.table_steps.specs.SweepSteps.{StampStep, StopStep, RewindStep}
use Rattle.table_steps.specs.States.{state}
use Rattle.table_steps.specs.Steps.{Step, ByAdvanceStep, ByBeginStep, ByCloseStep, ByJoinWorker, ByLoadCursor, ByLoadDied, ByLoadFree, ByLoadHead, ByLoadRound, ByLoadRow, ByPinStep, ByPlanStep, ByRetireStep, ByRewindStep, BySplitStep, ByStampStep, ByStopStep, ByWorkGives, ByWorkGoes, ByWorkHad, ByWorkBoth, ByWorkOpen}
use Rattle.table_state.proofs.TableLaws.{walk_sides}
use Rattle.table_runs.proofs.SquareRound1.{v28}
use Rattle.table_runs.proofs.SquareRound2.{v29, v30, v31, v32, v33, v34, v35, v36, v37, v38, v39, v40, v41, v42, v43, v44, v45, v46, v47, v48, v49, v50, v51, v52, v53, v54, v55, v56, v57, v58, t41, t43, g39, r41, r43}
use Rattle.table_words.specs.Views.{Worker, Reader}

pub k29 : LoadCursor square_setup finished1 2 v28 (state finished1 2 v29)
k29 = (no_half, refl)

pub s29 : Step square_setup (state finished1 2 v28) (state finished1 2 v29)
s29 = ByLoadCursor k29

pub k30 : LoadFree square_setup finished1 2 v29 (state finished1 2 v30)
k30 = (refl)

pub s30 : Step square_setup (state finished1 2 v29) (state finished1 2 v30)
s30 = ByLoadFree k30

pub k31 : LoadRow square_setup finished1 2 v30 (state finished1 2 v31)
k31 = (0, 0, refl)

pub s31 : Step square_setup (state finished1 2 v30) (state finished1 2 v31)
s31 = ByLoadRow k31

pub k32 : LoadFree square_setup finished1 2 v31 (state finished1 2 v32)
k32 = refl

pub s32 : Step square_setup (state finished1 2 v31) (state finished1 2 v32)
s32 = ByLoadFree k32

pub k33 : StopStep square_setup finished1 2 v32 (state stopped 2 v33)
k33 = (refl, 1, 1, refl, refl, le00, refl)

pub s33 : Step square_setup (state finished1 2 v32) (state stopped 2 v33)
s33 = ByStopStep k33

pub k34 : RewindStep square_setup stopped 2 v33 (state rewound 2 v34)
k34 = (refl, refl, refl)

pub s34 : Step square_setup (state stopped 2 v33) (state rewound 2 v34)
s34 = ByRewindStep k34

pub s35 : Step square_setup (state rewound 2 v34) (state rewound 3 v35)
s35 = BySplitStep (Reader, 0, 1, (inr (refl, le01, refl, refl)), 1, false, (inl (inl refl, refl)), [], (λ k h. absurd h), refl)

pub k36 : LoadRound square_setup rewound 3 v35 (state rewound 3 v36)
k36 = (2, refl, true, (inl (refl, many)), refl)

pub s36 : Step square_setup (state rewound 3 v35) (state rewound 3 v36)
s36 = ByLoadRound k36

pub k37 : PinStep square_setup rewound 3 v36 (state pinned 3 v37)
k37 = (2, refl, refl, refl, refl)

pub s37 : Step square_setup (state rewound 3 v36) (state pinned 3 v37)
s37 = ByPinStep k37

pub s38 : Step square_setup (state pinned 3 v37) (state pinned 3 v38)
s38 = ByBeginStep (second_plan, both, refl, second_aim, lt14, refl, refl, refl)

pub s39 : Step square_setup (state pinned 3 v38) (state pinned 3 v39)
s39 = ByPlanStep ((name0 ∷ []), (λ i h. h), refl, refl, no_claim, refl)

pub s40 : Step square_setup (state pinned 3 v39) (state pinned 4 v40)
s40 = BySplitStep (Worker, 1, 1, (inl (refl, inr refl, refl, refl)), 1, false, (inl (inr refl, refl)), [], (λ k h. absurd h), refl)

pub k41 : WorkGoes square_setup pinned 4 v40 (state pinned 4 v41)
k41 = (3, refl, 0, name0, 0, (node 1 0), (inl ((inr (inr (lt02, refl))), refl)), refl, (inl refl), t41, ((walk_sides square_setup pinned 4 v41 (g39, r41) 3 0 name0 0 t41).0 refl t41).1 refl, refl)

pub s41 : Step square_setup (state pinned 4 v40) (state pinned 4 v41)
s41 = ByWorkGoes k41

pub k42 : WorkHad square_setup pinned 4 v41 (state pinned 4 v42)
k42 = (3, refl, 0, name0, 0, t41, refl, refl, lt01, lt12, refl)

pub s42 : Step square_setup (state pinned 4 v41) (state pinned 4 v42)
s42 = ByWorkHad k42

pub s43 : Step square_setup (state pinned 4 v42) (state pinned 4 v43)
s43 = ByWorkGoes (3, refl, 1, name1, 0, (node 1 0), (inl ((inr (inr (lt12, refl))), refl)), refl, (inl refl), t43, ((walk_sides square_setup pinned 4 v43 (g39, r43) 3 1 name1 0 t43).0 refl t43).1 refl, refl)

pub k44 : WorkBoth square_setup pinned 4 v43 (state pinned 4 v44)
k44 = (3, refl, refl, 0, name0, 536870912, t43, (inl refl), ((walk_sides square_setup pinned 4 v43 (g39, r43) 3 1 name1 0 t43).0 refl t43).1 refl, refl)

pub s44 : Step square_setup (state pinned 4 v43) (state pinned 4 v44)
s44 = ByWorkBoth k44

pub k45 : WorkGives square_setup pinned 4 v44 (state pinned 4 v45)
k45 = (3, refl, refl, 0, name0, refl, (inr (inl refl)), refl)

pub s45 : Step square_setup (state pinned 4 v44) (state pinned 4 v45)
s45 = ByWorkGives k45

pub k46 : WorkOpen square_setup pinned 4 v45 (state pinned 4 v46)
k46 = (3, refl, refl, (child_place 2 0 t43 true), (square_setup.child name1 true), inl ((inr (inl refl))), _, _, inl ((inl (no_head t43 true)), refl, refl), refl)

pub s46 : Step square_setup (state pinned 4 v45) (state pinned 4 v46)
s46 = ByWorkOpen k46

pub s47 : Step square_setup (state pinned 4 v46) (state pinned 4 v47)
s47 = ByWorkOpen (3, refl, refl, (child_place 2 0 t43 false), (square_setup.child name1 false), inl ((inl refl)), _, _, inl ((inl (no_head t43 false)), refl, refl), refl)

pub s48 : Step square_setup (state pinned 4 v47) (state pinned 4 v48)
s48 = ByWorkOpen (3, refl, refl, (child_place 2 0 t41 true), (square_setup.child name0 true), inl ((inr (inr (inr (inl refl))))), _, _, inl ((inl (no_head t41 true)), refl, refl), refl)

pub s49 : Step square_setup (state pinned 4 v48) (state pinned 4 v49)
s49 = ByWorkOpen (3, refl, refl, (child_place 2 0 t41 false), (square_setup.child name0 false), inl ((inr (inr (inl refl)))), _, _, inl ((inl (no_head t41 false)), refl, refl), refl)

pub k50 : RetireStep square_setup pinned 4 v49 (state retired 4 v50)
k50 = (3, 0, name0, (inl refl), refl, (inl refl), refl, children0, children1, (name0 ∷ name1 ∷ (v49.work 3).open_), newly, refl)

pub s50 : Step square_setup (state pinned 4 v49) (state retired 4 v50)
s50 = ByRetireStep k50

pub s51 : Step square_setup (state retired 4 v50) (state retired 4 v51)
s51 = ByJoinWorker (3, (en 3 0 lt03), refl, 0, refl, refl)

pub s52 : Step square_setup (state retired 4 v51) (state retired 4 v52)
s52 = ByCloseStep (both_open, refl, refl, refl)

pub s53 : Step square_setup (state retired 4 v52) (state retired 4 v53)
s53 = ByLoadHead (0, 0, refl)

pub s54 : Step square_setup (state retired 4 v53) (state retired 4 v54)
s54 = ByLoadHead (0, 1, refl)

pub k55 : LoadDied square_setup retired 4 v54 (state retired 4 v55)
k55 = (0, 0, refl)

pub s55 : Step square_setup (state retired 4 v54) (state retired 4 v55)
s55 = ByLoadDied k55

pub k56 : StampStep square_setup retired 4 v55 (state stamped0 4 v56)
k56 = (refl, 0, 0, 0, 2, false, (inl refl), (λ h. h), refl, (inr (en 1 0 lt01, inl (refl, refl))), (inl (refl, refl)), refl)

pub s56 : Step square_setup (state retired 4 v55) (state stamped0 4 v56)
s56 = ByStampStep k56

pub s57 : Step square_setup (state stamped0 4 v56) (state stamped1 4 v57)
s57 = ByStampStep (refl, 1, 0, 0, 2, true, (inl refl), (λ h. h), refl, (inr (ne 0 1 lt01, inl (refl, refl))), (inl (refl, refl)), refl)

pub s58 : Step square_setup (state stamped1 4 v57) (state finished2 4 v58)
s58 = ByAdvanceStep ([], (λ i h. absurd h), none_stays, refl, refl, both_stamped, refl)
