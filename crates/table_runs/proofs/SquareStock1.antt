-- The run that uses a row of the stock: round 2, in which the patch is retired, and its block freed after it.
use Rattle.std.proofs.Common.{◌==◌, true, false, List, [], ◌∷◌, refl, inl, inr}
use Rattle.table_words.specs.Places.{member_of, child_place}
use Rattle.table_words.specs.Views.{Views, Worker}
use Rattle.table_words.specs.Words.{node}
use Rattle.table_steps.specs.States.{State, state}
use Rattle.table_steps.specs.Steps.{Run, Step, ByAdvanceStep, ByBeginStep, ByCloseStep, ByCutLink, ByFreeStep, ByJoinWorker, ByLoadCursor, ByLoadDied, ByLoadHead, ByLoadHistory, ByOpenStep, ByPlanStep, ByRetireStep, ByRewindStep, ByRowStep, BySplitStep, ByStampStep, ByStopStep, ByWorkBoth, ByWorkGives, ByWorkGoes, ByWorkHad, ByWorkOpen, ByZeroStep}
use Rattle.table_runs.specs.PatchWords.{name0, name1}
use Rattle.table_runs.specs.SquareRun.{Along}
use Rattle.table_runs.specs.SquareTwice.{pair_setup, stopped, rewound, finished1}
use Rattle.table_runs.proofs.SquareMoves.{begun, planned, closed, advanced, worker_made, joined, cursor_seen, stopped_at, opened_at, owned_head, owned_history, owned_born, owned_died, owned_row, goes_to, finds_had, finds_both, is_given, opens, retires}
use Rattle.table_runs.specs.SquareStock.{second_words, retired, stamped0, stamped1, finished2, cut0, cut1, unborn, laid, opened}
use Rattle.table_runs.proofs.SquareLists.{both, second_plan, none_stays}
use Rattle.table_runs.proofs.SquareNotes.{lt01, lt02, lt12, lt14, le00, le22, ne, en, no_claim, open4, children0, children1, newly, both_stamped, hand_zero, kept_zero, none_left, no_half}
use Rattle.table_runs.proofs.SquarePair.{pair_second, both_known}
use Rattle.table_runs.proofs.StockNotes.{frees_root, root_gone, two_rows, one_below, two_laid}
use Rattle.table_runs.proofs.SquareTwice1.{u28}

-- before round 2 FREE and CURSOR become 0; row 1 was not drawn, and is the stock
abbrev pub u29 : Views
u29 = cursor_seen 1 u28

pub s29 : Step pair_setup (state finished1 2 u28) (state finished1 2 u29)
s29 = ByLoadCursor (no_half, refl)

abbrev pub u30 : Views
u30 = stopped_at 1 2 u29

pub s30 : Step pair_setup (state finished1 2 u29) (state stopped 2 u30)
s30 = ByStopStep (refl, 2, 1, refl, refl, le00, refl)

abbrev pub u31 : Views
u31 = cursor_seen 0 u30

pub s31 : Step pair_setup (state stopped 2 u30) (state rewound 2 u31)
s31 = ByRewindStep (refl, refl, refl)

-- round 2: the patch is retired
abbrev pub u32 : Views
u32 = begun second_plan u31

pub s32 : Step pair_setup (state rewound 2 u31) (state rewound 2 u32)
s32 = ByBeginStep (second_plan, both, refl, pair_second, lt14, refl, refl, refl)

abbrev pub u33 : Views
u33 = planned (name0 ∷ []) u32

pub s33 : Step pair_setup (state rewound 2 u32) (state rewound 2 u33)
s33 = ByPlanStep (name0 ∷ [], (λ i h. h), refl, refl, no_claim, refl)

abbrev pub u34 : Views
u34 = worker_made 2 1 u33

pub s34 : Step pair_setup (state rewound 2 u33) (state rewound 3 u34)
s34 = BySplitStep (Worker, 1, 0, inl (refl, inr refl, refl, refl), 1, false, inl (inr refl, refl), [], (λ k h. absurd h), refl)

abbrev pub u35 : Views
u35 = goes_to 2 0 name0 0 false u34

pub s35 : Step pair_setup (state rewound 3 u34) (state rewound 3 u35)
s35 = ByWorkGoes (2, refl, 0, name0, 0, node 1 0, inl (inr (inr (lt02, refl)), refl), refl, inl refl, false, refl, refl)

abbrev pub u36 : Views
u36 = finds_had pair_setup 2 name0 0 false u35

pub s36 : Step pair_setup (state rewound 3 u35) (state rewound 3 u36)
s36 = ByWorkHad (2, refl, 0, name0, 0, false, refl, refl, lt01, lt12, refl)

-- the other member is known with the first, by the NAME word
abbrev pub u37 : Views
u37 = finds_both pair_setup 2 name1 0 true u36

pub s37 : Step pair_setup (state rewound 3 u36) (state rewound 3 u37)
s37 = ByWorkBoth (2, refl, refl, 0, name0, 536870912, true, inl refl, refl, refl)

abbrev pub u38 : Views
u38 = is_given 2 0 name0 u37

pub s38 : Step pair_setup (state rewound 3 u37) (state rewound 3 u38)
s38 = ByWorkGives (2, refl, refl, 0, name0, refl, inr (inl refl), refl)

abbrev pub u39 : Views
u39 = opens 2 (pair_setup.child name1 true) u38

pub s39 : Step pair_setup (state rewound 3 u38) (state rewound 3 u39)
s39 = ByWorkOpen (2, refl, refl, child_place 2 0 true true, pair_setup.child name1 true, inl (inr (inl refl)), _, _, inl (inl refl, refl, refl), refl)

abbrev pub u40 : Views
u40 = opens 2 (pair_setup.child name1 false) u39

pub s40 : Step pair_setup (state rewound 3 u39) (state rewound 3 u40)
s40 = ByWorkOpen (2, refl, refl, child_place 2 0 true false, pair_setup.child name1 false, inl (inl refl), _, _, inl (inl refl, refl, refl), refl)

abbrev pub u41 : Views
u41 = opens 2 (pair_setup.child name0 true) u40

pub s41 : Step pair_setup (state rewound 3 u40) (state rewound 3 u41)
s41 = ByWorkOpen (2, refl, refl, child_place 2 0 false true, pair_setup.child name0 true, inl (inr (inr (inr (inl refl)))), _, _, inl (inl refl, refl, refl), refl)

abbrev pub u42 : Views
u42 = opens 2 (pair_setup.child name0 false) u41

pub s42 : Step pair_setup (state rewound 3 u41) (state rewound 3 u42)
s42 = ByWorkOpen (2, refl, refl, child_place 2 0 false false, pair_setup.child name0 false, inl (inr (inr (inl refl))), _, _, inl (inl refl, refl, refl), refl)

abbrev pub u43 : Views
u43 = retires 2 0 (name0 ∷ name1 ∷ open4) u42

pub s43 : Step pair_setup (state rewound 3 u42) (state retired 3 u43)
s43 = ByRetireStep (2, 0, name0, inl refl, refl, inl refl, refl, children0, children1, name0 ∷ name1 ∷ open4, newly, refl)

abbrev pub u44 : Views
u44 = joined 2 0 u43

pub s44 : Step pair_setup (state retired 3 u43) (state retired 3 u44)
s44 = ByJoinWorker (2, en 2 0 lt02, refl, 0, refl, refl)

abbrev pub u45 : Views
u45 = closed u44

pub s45 : Step pair_setup (state retired 3 u44) (state retired 3 u45)
s45 = ByCloseStep (both_known open4, refl, refl, refl)

abbrev pub u46 : Views
u46 = owned_head 0 0 (node 1 0) u45

pub s46 : Step pair_setup (state retired 3 u45) (state retired 3 u46)
s46 = ByLoadHead (0, 0, refl)

abbrev pub u47 : Views
u47 = owned_head 0 1 (node 1 0) u46

pub s47 : Step pair_setup (state retired 3 u46) (state retired 3 u47)
s47 = ByLoadHead (0, 1, refl)

abbrev pub u48 : Views
u48 = owned_died 0 0 2 u47

pub s48 : Step pair_setup (state retired 3 u47) (state retired 3 u48)
s48 = ByLoadDied (0, 0, refl)

abbrev pub u49 : Views
u49 = owned_head 0 0 (node 1 2) u48

pub s49 : Step pair_setup (state retired 3 u48) (state stamped0 3 u49)
s49 = ByStampStep (refl, 0, 0, 0, 2, false, inl refl, (λ h. h), refl, inr (en 1 0 lt01, inl (refl, refl)), inl (refl, refl), refl)

abbrev pub u50 : Views
u50 = owned_head 0 1 (node 1 2) u49

pub s50 : Step pair_setup (state stamped0 3 u49) (state stamped1 3 u50)
s50 = ByStampStep (refl, 1, 0, 0, 2, true, inl refl, (λ h. h), refl, inr (ne 0 1 lt01, inl (refl, refl)), inl (refl, refl), refl)

abbrev pub u51 : Views
u51 = advanced [] 1 0 u50

pub s51 : Step pair_setup (state stamped1 3 u50) (state finished2 3 u51)
s51 = ByAdvanceStep ([], (λ i h. absurd h), none_stays, refl, refl, both_stamped, refl)

-- block 0 is cut out and freed, and laid into the row that is to be drawn first; row 1 stays as it is
abbrev pub u52 : Views
u52 = owned_history 0 (member_of 0 false) (node 0 0) u51

pub s52 : Step pair_setup (state finished2 3 u51) (state finished2 3 u52)
s52 = ByLoadHistory (0, member_of 0 false, refl)

abbrev pub u53 : Views
u53 = owned_history 0 (member_of 0 true) (node 0 0) u52

pub s53 : Step pair_setup (state finished2 3 u52) (state finished2 3 u53)
s53 = ByLoadHistory (0, member_of 0 true, refl)

abbrev pub u54 : Views
u54 = owned_head 0 0 (node 0 0) u53

pub s54 : Step pair_setup (state finished2 3 u53) (state cut0 3 u54)
s54 = ByCutLink (refl, 0, 0, 2, 0, 2, false, node 0 0, inr (en 1 0 lt01, inl (refl, refl)), inl (refl, refl), inr (en 1 0 lt01, inl (refl, refl)), lt02, inl refl, inl refl, (λ h. h), refl, refl)

abbrev pub u55 : Views
u55 = owned_head 0 1 (node 0 0) u54

pub s55 : Step pair_setup (state cut0 3 u54) (state cut1 3 u55)
s55 = ByCutLink (refl, 1, 0, 2, 0, 2, true, node 0 0, inr (ne 0 1 lt01, inl (refl, refl)), inl (refl, refl), inl (refl, refl), lt02, inl refl, inl refl, (λ h. h), refl, refl)

abbrev pub u56 : Views
u56 = frees_root u55

pub s56 : Step pair_setup (state cut1 3 u55) (state cut1 3 u56)
s56 = ByFreeStep (refl, (λ c. c == 0), 0 ∷ [], [], [], [], root_gone, hand_zero, (λ c. ((λ h. absurd h), λ h. absurd h)), kept_zero, none_left, refl)

abbrev pub u57 : Views
u57 = owned_born 0 0 0 u56

pub s57 : Step pair_setup (state cut1 3 u56) (state unborn 3 u57)
s57 = ByZeroStep (refl, 0, inl refl, refl)

abbrev pub u58 : Views
u58 = owned_row 0 0 0 u57

pub s58 : Step pair_setup (state unborn 3 u57) (state laid 3 u58)
s58 = ByRowStep (refl, 0, 0, refl, inl lt01, refl)

abbrev pub u59 : Views
u59 = cursor_seen 0 u58

pub s59 : Step pair_setup (state laid 3 u58) (state laid 3 u59)
s59 = ByLoadCursor (no_half, refl)

abbrev pub u60 : Views
u60 = opened_at 2 u59

pub s60 : Step pair_setup (state laid 3 u59) (state opened 3 u60)
s60 = ByOpenStep (refl, 2, [], refl, refl, (λ _. le22), two_rows, one_below, two_laid, refl)

abbrev pub second_states : List State
second_states = state finished1 2 u29 ∷ state stopped 2 u30 ∷ state rewound 2 u31 ∷ state rewound 2 u32 ∷ state rewound 2 u33 ∷ state rewound 3 u34 ∷ state rewound 3 u35 ∷ state rewound 3 u36 ∷ state rewound 3 u37 ∷ state rewound 3 u38 ∷ state rewound 3 u39 ∷ state rewound 3 u40 ∷ state rewound 3 u41 ∷ state rewound 3 u42 ∷ state retired 3 u43 ∷ state retired 3 u44 ∷ state retired 3 u45 ∷ state retired 3 u46 ∷ state retired 3 u47 ∷ state retired 3 u48 ∷ state stamped0 3 u49 ∷ state stamped1 3 u50 ∷ state finished2 3 u51 ∷ state finished2 3 u52 ∷ state finished2 3 u53 ∷ state cut0 3 u54 ∷ state cut1 3 u55 ∷ state cut1 3 u56 ∷ state unborn 3 u57 ∷ state laid 3 u58 ∷ state laid 3 u59 ∷ state opened 3 u60 ∷ []

pub second_run : Run pair_setup (state finished1 2 u28) second_states
second_run = (s29, (s30, (s31, (s32, (s33, (s34, (s35, (s36, (s37, (s38, (s39, (s40, (s41, (s42, (s43, (s44, (s45, (s46, (s47, (s48, (s49, (s50, (s51, (s52, (s53, (s54, (s55, (s56, (s57, (s58, (s59, (s60, tt))))))))))))))))))))))))))))))))

pub second_along : Along second_states (finished1 ∷ second_words)
second_along = (refl, inl (refl, inl (refl, inr (refl, inr (refl, inr (refl, inr (refl, inr (refl, inr (refl, inr (refl, inr (refl, inr (refl, inr (refl, inr (refl, inl (refl, inr (refl, inr (refl, inr (refl, inr (refl, inr (refl, inl (refl, inl (refl, inl (refl, inr (refl, inr (refl, inl (refl, inl (refl, inr (refl, inl (refl, inl (refl, inr (refl, inl (refl, inl refl))))))))))))))))))))))))))))))))
