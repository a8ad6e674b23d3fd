-- The run that retires the block of a child of the square, and frees it: round 3, and after it.
use Rattle.std.proofs.Common.{◌++◌, true, false, List, [], ◌∷◌, refl, inl, inr}
use Rattle.table_words.specs.Places.{member_of, child_place}
use Rattle.table_words.specs.Views.{Views, Worker}
use Rattle.table_words.specs.Words.{node}
use Rattle.table_steps.specs.SweepSteps.{FreeStep}
use Rattle.table_steps.specs.States.{State, state}
use Rattle.table_steps.specs.Steps.{Run, Step, ByRetireStep, ByWorkGoes, ByWorkHad, ByWorkGives, ByWorkOpen, ByLoadHead, ByLoadHistory, ByLoadDied, ByLoadCursor, BySplitStep, ByJoinWorker, ByBeginStep, ByPlanStep, ByCloseStep, ByAdvanceStep, ByStampStep, ByCutLink, ByFreeStep, ByStopStep, ByRewindStep}
use Rattle.table_runs.specs.SquareKinds.{fresh_state}
use Rattle.table_runs.specs.PatchWords.{name0}
use Rattle.table_runs.specs.SquareRun.{Along}
use Rattle.table_runs.specs.SquareTwice.{pair_setup}
use Rattle.table_runs.specs.ChildWords.{child_name, at_child}
use Rattle.table_runs.specs.SquareChild.{finished2, child_words}
use Rattle.table_runs.specs.SquareFreed.{SquareFreed, FreesAlone, last_words, stopped, rewound, retired, stamped, finished3, cut}
use Rattle.table_runs.proofs.SquareLists.{both}
use Rattle.table_runs.proofs.SquareMoves.{begun, planned, closed, advanced, worker_made, joined, cursor_seen, stopped_at, owned_head, owned_history, owned_died, goes_to, finds_had, is_given, opens, retires}
use Rattle.table_runs.proofs.SquareNotes.{lt01, lt02, lt03, lt24, le00, ne, en, no_claim, no_half}
use Rattle.table_runs.proofs.SquarePair.{lt23}
use Rattle.table_runs.proofs.ChildNotes.{child_names}
use Rattle.table_runs.proofs.FreedNotes.{lt13, keep_plan, keep_aim, child_open, child_kids, single, child_newly, child_listed, both_keep, only_both, child_stamped, frees_child, is_one, root_placed, child_gone, hand_one, kept_one, root_left, looks_at_child}
use Rattle.table_runs.proofs.SquareChild1.{u63}
use Rattle.table_runs.proofs.SquareChild.{child_states, child_run, child_along}
use Rattle.table_runs.proofs.SquareKinds.{reach}
use Rattle.table_runs.proofs.Segments.{run_append, along_on}

-- before round 3 CURSOR becomes 0; the one row was drawn, so that there is no stock
abbrev pub u64 : Views
u64 = cursor_seen 1 u63

pub s64 : Step pair_setup (state finished2 3 u63) (state finished2 3 u64)
s64 = ByLoadCursor (no_half, refl)

abbrev pub u65 : Views
u65 = stopped_at 1 1 u64

pub s65 : Step pair_setup (state finished2 3 u64) (state stopped 3 u65)
s65 = ByStopStep (refl, 1, 1, refl, refl, le00, refl)

abbrev pub u66 : Views
u66 = cursor_seen 0 u65

pub s66 : Step pair_setup (state stopped 3 u65) (state rewound 3 u66)
s66 = ByRewindStep (refl, refl, refl)

-- round 3: the child is not bisected any more; a pass finds its block, and no child of it bisected, and retires it
abbrev pub u67 : Views
u67 = begun keep_plan u66

pub s67 : Step pair_setup (state rewound 3 u66) (state rewound 3 u67)
s67 = ByBeginStep (keep_plan, child_names, refl, keep_aim, lt24, refl, refl, refl)

abbrev pub u68 : Views
u68 = planned (child_name ∷ []) u67

pub s68 : Step pair_setup (state rewound 3 u67) (state rewound 3 u68)
s68 = ByPlanStep (child_name ∷ [], (λ i h. h), refl, refl, no_claim, refl)

abbrev pub u69 : Views
u69 = worker_made 3 1 u68

pub s69 : Step pair_setup (state rewound 3 u68) (state rewound 4 u69)
s69 = BySplitStep (Worker, 1, 0, inl (refl, inr refl, refl, refl), 1, false, inl (inr refl, refl), [], (λ k h. absurd h), refl)

abbrev pub u70 : Views
u70 = goes_to 3 0 name0 0 false u69

pub s70 : Step pair_setup (state rewound 4 u69) (state rewound 4 u70)
s70 = ByWorkGoes (3, refl, 0, name0, 0, node 1 0, inl (inr (inr (lt02, refl)), refl), refl, inl refl, false, refl, refl)

abbrev pub u71 : Views
u71 = finds_had pair_setup 3 name0 0 false u70

pub s71 : Step pair_setup (state rewound 4 u70) (state rewound 4 u71)
s71 = ByWorkHad (3, refl, 0, name0, 0, false, refl, refl, lt01, lt13, refl)

abbrev pub u72 : Views
u72 = goes_to 3 at_child child_name 1 false u71

pub s72 : Step pair_setup (state rewound 4 u71) (state rewound 4 u72)
s72 = ByWorkGoes (3, refl, at_child, child_name, 1, node 2 0, inl (inr (inl (inl refl)), refl), refl, inl refl, false, refl, refl)

abbrev pub u73 : Views
u73 = finds_had pair_setup 3 child_name 1 false u72

pub s73 : Step pair_setup (state rewound 4 u72) (state rewound 4 u73)
s73 = ByWorkHad (3, refl, at_child, child_name, 1, false, refl, refl, lt02, lt23, refl)

abbrev pub u74 : Views
u74 = is_given 3 1 child_name u73

pub s74 : Step pair_setup (state rewound 4 u73) (state rewound 4 u74)
s74 = ByWorkGives (3, refl, refl, 1, child_name, refl, inl refl, refl)

abbrev pub u75 : Views
u75 = opens 3 (pair_setup.child child_name true) u74

pub s75 : Step pair_setup (state rewound 4 u74) (state rewound 4 u75)
s75 = ByWorkOpen (3, refl, refl, child_place 2 1 false true, pair_setup.child child_name true, inl (inr (inl refl)), _, _, inl (inl refl, refl, refl), refl)

abbrev pub u76 : Views
u76 = opens 3 (pair_setup.child child_name false) u75

pub s76 : Step pair_setup (state rewound 4 u75) (state rewound 4 u76)
s76 = ByWorkOpen (3, refl, refl, child_place 2 1 false false, pair_setup.child child_name false, inl (inl refl), _, _, inl (inl refl, refl, refl), refl)

abbrev pub u77 : Views
u77 = retires 3 1 (child_name ∷ child_open) u76

pub s77 : Step pair_setup (state rewound 4 u76) (state retired 4 u77)
s77 = ByRetireStep (3, 1, child_name, inl refl, refl, inl refl, refl, child_kids, single, child_name ∷ child_open, child_newly, refl)

abbrev pub u78 : Views
u78 = joined 3 0 u77

pub s78 : Step pair_setup (state retired 4 u77) (state retired 4 u78)
s78 = ByJoinWorker (3, en 3 0 lt03, refl, 0, refl, refl)

abbrev pub u79 : Views
u79 = closed u78

pub s79 : Step pair_setup (state retired 4 u78) (state retired 4 u79)
s79 = ByCloseStep (child_listed, refl, refl, refl)

-- the owner stamps the LINK word of the child's place, and ends the round
abbrev pub u80 : Views
u80 = owned_head 0 at_child (node 2 0) u79

pub s80 : Step pair_setup (state retired 4 u79) (state retired 4 u80)
s80 = ByLoadHead (0, at_child, refl)

abbrev pub u81 : Views
u81 = owned_died 0 1 3 u80

pub s81 : Step pair_setup (state retired 4 u80) (state retired 4 u81)
s81 = ByLoadDied (0, 1, refl)

abbrev pub u82 : Views
u82 = owned_head 0 at_child (node 2 3) u81

pub s82 : Step pair_setup (state retired 4 u81) (state stamped 4 u82)
s82 = ByStampStep (refl, at_child, 1, at_child, 0, false, inl refl, (λ h. h), refl, inl (refl, refl), inl (refl, refl), refl)

abbrev pub u83 : Views
u83 = advanced both 2 0 u82

pub s83 : Step pair_setup (state stamped 4 u82) (state finished3 4 u83)
s83 = ByAdvanceStep (both, both_keep, only_both, refl, refl, child_stamped, refl)

-- it cuts the block out of the word, and frees it
abbrev pub u84 : Views
u84 = owned_history 0 (member_of 1 false) (node 0 0) u83

pub s84 : Step pair_setup (state finished3 4 u83) (state finished3 4 u84)
s84 = ByLoadHistory (0, member_of 1 false, refl)

abbrev pub u85 : Views
u85 = owned_head 0 at_child (node 0 0) u84

pub s85 : Step pair_setup (state finished3 4 u84) (state cut 4 u85)
s85 = ByCutLink (refl, at_child, 1, 3, at_child, 0, false, node 0 0, inl (refl, refl), inl (refl, refl), inl (refl, refl), lt03, inl refl, inl refl, (λ h. h), refl, refl)

abbrev pub u86 : Views
u86 = frees_child u85

pub k86 : FreeStep pair_setup cut 4 u85 (state cut 4 u86)
k86 = (refl, is_one, 1 ∷ [], [], [], root_placed, child_gone, hand_one, (λ c. ((λ h. absurd h), λ h. absurd h)), kept_one, root_left, refl)

pub s86 : Step pair_setup (state cut 4 u85) (state cut 4 u86)
s86 = ByFreeStep k86

abbrev pub last_states : List State
last_states = state finished2 3 u64 ∷ state stopped 3 u65 ∷ state rewound 3 u66 ∷ state rewound 3 u67 ∷ state rewound 3 u68 ∷ state rewound 4 u69 ∷ state rewound 4 u70 ∷ state rewound 4 u71 ∷ state rewound 4 u72 ∷ state rewound 4 u73 ∷ state rewound 4 u74 ∷ state rewound 4 u75 ∷ state rewound 4 u76 ∷ state retired 4 u77 ∷ state retired 4 u78 ∷ state retired 4 u79 ∷ state retired 4 u80 ∷ state retired 4 u81 ∷ state stamped 4 u82 ∷ state finished3 4 u83 ∷ state finished3 4 u84 ∷ state cut 4 u85 ∷ state cut 4 u86 ∷ []

abbrev pub freed_states : List State
freed_states = child_states ++ last_states

pub freed_run : Run pair_setup (fresh_state 2) freed_states
freed_run = run_append pair_setup (fresh_state 2) child_states last_states child_run (s64, (s65, (s66, (s67, (s68, (s69, (s70, (s71, (s72, (s73, (s74, (s75, (s76, (s77, (s78, (s79, (s80, (s81, (s82, (s83, (s84, (s85, (s86, tt)))))))))))))))))))))))

last_along : Along last_states (finished2 ∷ last_words)
last_along = (refl, inl (refl, inl (refl, inr (refl, inr (refl, inr (refl, inr (refl, inr (refl, inr (refl, inr (refl, inr (refl, inr (refl, inr (refl, inl (refl, inr (refl, inr (refl, inr (refl, inr (refl, inl (refl, inl (refl, inr (refl, inl (refl, inr (refl, inl refl)))))))))))))))))))))))

pub square_freed : SquareFreed
square_freed = (freed_states, freed_run, along_on (fresh_state 2) child_states last_states finished2 child_words last_words child_along last_along)

pub frees_alone : FreesAlone
frees_alone = (state cut 4 u85, state cut 4 u86, reach 2 freed_states freed_run 85, refl, k86, looks_at_child, inl refl, inl refl)
