-- The run that bisects the patch of the square twice: round 1, and before round 2.
use Rattle.std.proofs.Common.{◌++◌, true, false, List, [], ◌∷◌, refl, inl, inr, arith}
use Rattle.table_words.specs.Claims.{Half, Whole, Living}
use Rattle.table_words.specs.Places.{member_of, child_place}
use Rattle.table_words.specs.Views.{Views, Worker}
use Rattle.table_words.specs.Words.{node}
use Rattle.table_state.specs.Fresh.{fresh_words, fresh_views}
use Rattle.table_steps.specs.WalkSteps.{LoadBorn}
use Rattle.table_steps.specs.OwnerSteps.{NoteFree}
use Rattle.table_steps.specs.States.{State, state}
use Rattle.table_steps.specs.Steps.{Run, Step, ByClaimStep, ByDrawStep, ByFillHistory, ByFillName, ByFillDied, ByFillChild, ByLinkFirst, ByLinkSecond, ByPublishStep, ByWorkTop, ByWorkEnds, ByLoadHead, ByLoadBorn, ByLoadRow, ByLoadCursor, ByLoadFree, ByNoteFree, ByNotePlaces, BySplitStep, ByJoinWorker, ByBeginStep, ByPlanStep, ByCloseStep, ByAdvanceStep, ByUnclaimStep, ByStopStep, ByRewindStep, ByRowStep, ByOpenStep}
use Rattle.table_runs.specs.SquareKinds.{fresh_state}
use Rattle.table_runs.specs.PatchWords.{name0, name1}
use Rattle.table_runs.specs.SquareRun.{Along}
use Rattle.table_runs.specs.PatchWords as root
use Rattle.table_runs.specs.SquareTwice.{pair_setup, first_words, row_words, opened_words, published, unclaimed, finished1, stopped, rewound, laid, opened}
use Rattle.table_runs.proofs.SquareLists.{both, first_plan, none_listed, both_stay}
use Rattle.table_runs.proofs.SquareMoves.{begun, planned, closed, advanced, worker_made, joined, cursor_seen, free_seen, stopped_at, takes_row, opened_at, placed_at, claims_at, draws_for, comes_to, unclaims, owned_head, owned_history, owned_born, owned_died, owned_name, owned_row, found_at, finds_absent, knows}
use Rattle.table_runs.proofs.SquareNotes.{lt01, lt02, lt12, le00, le11, one_row, one_laid, ne, en, not_less, same_below_one, kids_noted, past_four, old_words, living_claim, three, only_zero, not_living, lt04, no_half}
use Rattle.table_runs.proofs.Segments.{run_append, along_on}
use Rattle.table_runs.proofs.SquarePair.{pair_first, bisects_first}

abbrev pub u0 : Views
u0 = fresh_views 2

-- round 1: the patch is bisected by block 0
abbrev pub u1 : Views
u1 = begun first_plan u0

pub s1 : Step pair_setup (state (fresh_words 2) 1 u0) (state (fresh_words 2) 1 u1)
s1 = ByBeginStep (first_plan, [], refl, pair_first, lt04, refl, refl, refl)

abbrev pub u2 : Views
u2 = worker_made 1 1 u1

pub s2 : Step pair_setup (state (fresh_words 2) 1 u1) (state (fresh_words 2) 2 u2)
s2 = BySplitStep (Worker, 1, 0, inl (refl, inl refl, refl, refl), 1, false, inr (inr (lt01, refl, refl)), [], (λ k h. absurd h), refl)

abbrev pub u3 : Views
u3 = found_at 1 0 name0 u2

pub s3 : Step pair_setup (state (fresh_words 2) 2 u2) (state (fresh_words 2) 2 u3)
s3 = ByWorkTop (1, refl, refl, 0, lt02, refl)

abbrev pub u4 : Views
u4 = found_at 1 1 name1 u3

pub s4 : Step pair_setup (state (fresh_words 2) 2 u3) (state (fresh_words 2) 2 u4)
s4 = ByWorkTop (1, refl, refl, 1, lt12, refl)

abbrev pub u5 : Views
u5 = finds_absent 1 name0 u4

pub s5 : Step pair_setup (state (fresh_words 2) 2 u4) (state (fresh_words 2) 2 u5)
s5 = ByWorkEnds (1, refl, 0, name0, node 0 0, inl (inl (inr (inl refl)), refl), inl refl, refl)

abbrev pub u6 : Views
u6 = finds_absent 1 name1 u5

pub s6 : Step pair_setup (state (fresh_words 2) 2 u5) (state (fresh_words 2) 2 u6)
s6 = ByWorkEnds (1, refl, 1, name1, node 0 0, inl (inl (inl refl), refl), inl refl, refl)

abbrev pub u7 : Views
u7 = claims_at 1 0 2 u6

pub s7 : Step pair_setup (state (fresh_words 2) 2 u6) (state (root.claimed (fresh_words 2)) 2 u7)
s7 = ByClaimStep (1, 0, 2, name0, refl, refl, refl, inl (inr (inl refl)), inl refl, inr (inl refl), inr (1, 536870912, refl, refl, inl refl), refl)

abbrev pub u8 : Views
u8 = draws_for 1 0 0 0 u7

pub s8 : Step pair_setup (state (root.claimed (fresh_words 2)) 2 u7) (state (root.drawn (fresh_words 2)) 2 u8)
s8 = ByDrawStep (1, 0, 2, inl refl, refl, lt02, refl)

abbrev pub u9 : Views
u9 = owned_head 1 0 (node 0 0) u8

pub s9 : Step pair_setup (state (root.drawn (fresh_words 2)) 2 u8) (state (root.drawn (fresh_words 2)) 2 u9)
s9 = ByLoadHead (1, 0, refl)

abbrev pub u10 : Views
u10 = owned_head 1 1 (node 0 0) u9

pub s10 : Step pair_setup (state (root.drawn (fresh_words 2)) 2 u9) (state (root.drawn (fresh_words 2)) 2 u10)
s10 = ByLoadHead (1, 1, refl)

abbrev pub u11 : Views
u11 = owned_history 1 (member_of 0 false) (node 0 0) u10

pub s11 : Step pair_setup (state (root.drawn (fresh_words 2)) 2 u10) (state (root.history0 (fresh_words 2)) 2 u11)
s11 = ByFillHistory (1, 0, 2, 0, inl refl, refl, false, node 0 0, refl)

abbrev pub u12 : Views
u12 = owned_history 1 (member_of 0 true) (node 0 0) u11

pub s12 : Step pair_setup (state (root.history0 (fresh_words 2)) 2 u11) (state (root.history1 (fresh_words 2)) 2 u12)
s12 = ByFillHistory (1, 0, 2, 0, inl refl, refl, true, node 0 0, refl)

abbrev pub u13 : Views
u13 = owned_died 1 0 0 u12

pub s13 : Step pair_setup (state (root.history1 (fresh_words 2)) 2 u12) (state (root.undead (fresh_words 2)) 2 u13)
s13 = ByFillDied (1, 0, 2, 0, inl refl, refl, 0, refl)

abbrev pub u14 : Views
u14 = owned_name 1 (member_of 0 false) name0 u13

pub s14 : Step pair_setup (state (root.undead (fresh_words 2)) 2 u13) (state (root.named0 (fresh_words 2)) 2 u14)
s14 = ByFillName (1, 0, 2, 0, inl refl, refl, false, name0, refl)

abbrev pub u15 : Views
u15 = owned_name 1 (member_of 0 true) name1 u14

pub s15 : Step pair_setup (state (root.named0 (fresh_words 2)) 2 u14) (state (root.named1 (fresh_words 2)) 2 u15)
s15 = ByFillName (1, 0, 2, 0, inl refl, refl, true, name1, refl)

abbrev pub u16 : Views
u16 = owned_head 1 (child_place 2 0 false false) (node 0 0) u15

pub s16 : Step pair_setup (state (root.named1 (fresh_words 2)) 2 u15) (state (root.child0 (fresh_words 2)) 2 u16)
s16 = ByFillChild (1, 0, 2, 0, inl refl, refl, false, false, node 0 0, refl)

abbrev pub u17 : Views
u17 = owned_head 1 (child_place 2 0 false true) (node 0 0) u16

pub s17 : Step pair_setup (state (root.child0 (fresh_words 2)) 2 u16) (state (root.child1 (fresh_words 2)) 2 u17)
s17 = ByFillChild (1, 0, 2, 0, inl refl, refl, false, true, node 0 0, refl)

abbrev pub u18 : Views
u18 = owned_head 1 (child_place 2 0 true false) (node 0 0) u17

pub s18 : Step pair_setup (state (root.child1 (fresh_words 2)) 2 u17) (state (root.child2 (fresh_words 2)) 2 u18)
s18 = ByFillChild (1, 0, 2, 0, inl refl, refl, true, false, node 0 0, refl)

abbrev pub u19 : Views
u19 = owned_head 1 (child_place 2 0 true true) (node 0 0) u18

pub s19 : Step pair_setup (state (root.child2 (fresh_words 2)) 2 u18) (state (root.child3 (fresh_words 2)) 2 u19)
s19 = ByFillChild (1, 0, 2, 0, inl refl, refl, true, true, node 0 0, refl)

abbrev pub u20 : Views
u20 = comes_to 1 0 (Half 0) u19

pub s20 : Step pair_setup (state (root.child3 (fresh_words 2)) 2 u19) (state (root.linked0 (fresh_words 2)) 2 u20)
s20 = ByLinkFirst (1, 0, 2, 0, name0, inl refl, refl, inl (refl, refl), inr (en 1 0 (lt01), inl (refl, refl)), inl (refl, refl), refl, kids_noted ((1, node 0 0) ∷ (0, node 0 0) ∷ []), old_words, inr (inl refl), inr (1, 536870912, refl, refl, inl refl), Half 0, inl refl, refl)

abbrev pub u21 : Views
u21 = comes_to 1 0 (Whole 0) u20

pub s21 : Step pair_setup (state (root.linked0 (fresh_words 2)) 2 u20) (state (root.linked1 (fresh_words 2)) 2 u21)
s21 = ByLinkSecond (1, 0, 1, 0, node 0 0, inl refl, refl, past_four ((1, node 0 0) ∷ (0, node 0 0) ∷ []) 1 (node 0 0) lt12 (inl (refl, refl)), inl (refl, refl), refl)

abbrev pub u22 : Views
u22 = knows 1 0 (Living 0) (name0 ∷ []) u21

pub s22 : Step pair_setup (state (root.linked1 (fresh_words 2)) 2 u21) (state published 2 u22)
s22 = ByPublishStep (1, 0, 2, 0, inl refl, refl, name0 ∷ [], bisects_first, refl)

abbrev pub u23 : Views
u23 = joined 1 0 u22

pub s23 : Step pair_setup (state published 2 u22) (state published 2 u23)
s23 = ByJoinWorker (1, en 1 0 (omega arith), refl, 0, refl, refl)

abbrev pub u24 : Views
u24 = planned [] u23

pub s24 : Step pair_setup (state published 2 u23) (state published 2 u24)
s24 = ByPlanStep ([], (λ i h. h), refl, refl, living_claim, refl)

abbrev pub u25 : Views
u25 = closed u24

pub s25 : Step pair_setup (state published 2 u24) (state published 2 u25)
s25 = ByCloseStep (none_listed [], refl, refl, refl)

abbrev pub u26 : Views
u26 = placed_at 0 0 2 u25

pub s26 : Step pair_setup (state published 2 u25) (state published 2 u26)
s26 = ByNotePlaces (0, 0, 2, inl refl, refl)

abbrev pub u27 : Views
u27 = unclaims 0 2 (Living 0) u26

pub s27 : Step pair_setup (state published 2 u26) (state unclaimed 2 u27)
s27 = ByUnclaimStep (three, not_less, 0, 2, Living 0, inl refl, only_zero, not_living, refl)

abbrev pub u28 : Views
u28 = advanced both 0 0 u27

pub s28 : Step pair_setup (state unclaimed 2 u27) (state finished1 2 u28)
s28 = ByAdvanceStep (both, both_stay, (λ i h _. h), refl, refl, (λ b h. absurd h), refl)

-- before round 2 block 1 is laid into the row that is to be drawn next
abbrev pub u29 : Views
u29 = cursor_seen 1 u28

pub s29 : Step pair_setup (state finished1 2 u28) (state finished1 2 u29)
s29 = ByLoadCursor (no_half, refl)

abbrev pub u30 : Views
u30 = owned_row 0 1 1 u29

pub s30 : Step pair_setup (state finished1 2 u29) (state finished1 2 u30)
s30 = ByLoadRow (0, 1, refl)

abbrev pub u31 : Views
u31 = owned_born 0 1 0 u30

pub k31 : LoadBorn pair_setup finished1 2 u30 (state finished1 2 u31)
k31 = (0, 1, refl)

pub s31 : Step pair_setup (state finished1 2 u30) (state finished1 2 u31)
s31 = ByLoadBorn k31

abbrev pub u32 : Views
u32 = owned_row 0 0 0 u31

pub s32 : Step pair_setup (state finished1 2 u31) (state finished1 2 u32)
s32 = ByLoadRow (0, 0, refl)

abbrev pub u33 : Views
u33 = free_seen 2 u32

pub s33 : Step pair_setup (state finished1 2 u32) (state finished1 2 u33)
s33 = ByLoadFree refl

abbrev pub u34 : Views
u34 = stopped_at 1 2 u33

pub s34 : Step pair_setup (state finished1 2 u33) (state stopped 2 u34)
s34 = ByStopStep (refl, 2, 1, refl, refl, le00, refl)

abbrev pub u35 : Views
u35 = cursor_seen 0 u34

pub s35 : Step pair_setup (state stopped 2 u34) (state rewound 2 u35)
s35 = ByRewindStep (refl, refl, refl)

abbrev pub u36 : Views
u36 = takes_row 1 1 u35

pub k36 : NoteFree pair_setup rewound 2 u35 (state rewound 2 u36)
k36 = (1, 1, refl, le11, refl, inr (ne 0 1 lt01, inl (refl, refl)), refl)

pub s36 : Step pair_setup (state rewound 2 u35) (state rewound 2 u36)
s36 = ByNoteFree k36

abbrev pub u37 : Views
u37 = owned_row 0 0 1 u36

pub s37 : Step pair_setup (state rewound 2 u36) (state laid 2 u37)
s37 = ByRowStep (refl, 0, 1, refl, inl lt01, refl)

abbrev pub u38 : Views
u38 = opened_at 1 u37

pub s38 : Step pair_setup (state laid 2 u37) (state opened 2 u38)
s38 = ByOpenStep (refl, 1, [], refl, refl, (λ _. le11), one_row 1 1 ((0, 0) ∷ (1, 1) ∷ []), (λ i k b l m. same_below_one i k l.0 m.0), one_laid 1 1 ((0, 0) ∷ (1, 1) ∷ []), refl)

-- both parts, as runs
abbrev pub first_states : List State
first_states = state (fresh_words 2) 1 u1 ∷ state (fresh_words 2) 2 u2 ∷ state (fresh_words 2) 2 u3 ∷ state (fresh_words 2) 2 u4 ∷ state (fresh_words 2) 2 u5 ∷ state (fresh_words 2) 2 u6 ∷ state (root.claimed (fresh_words 2)) 2 u7 ∷ state (root.drawn (fresh_words 2)) 2 u8 ∷ state (root.drawn (fresh_words 2)) 2 u9 ∷ state (root.drawn (fresh_words 2)) 2 u10 ∷ state (root.history0 (fresh_words 2)) 2 u11 ∷ state (root.history1 (fresh_words 2)) 2 u12 ∷ state (root.undead (fresh_words 2)) 2 u13 ∷ state (root.named0 (fresh_words 2)) 2 u14 ∷ state (root.named1 (fresh_words 2)) 2 u15 ∷ state (root.child0 (fresh_words 2)) 2 u16 ∷ state (root.child1 (fresh_words 2)) 2 u17 ∷ state (root.child2 (fresh_words 2)) 2 u18 ∷ state (root.child3 (fresh_words 2)) 2 u19 ∷ state (root.linked0 (fresh_words 2)) 2 u20 ∷ state (root.linked1 (fresh_words 2)) 2 u21 ∷ state published 2 u22 ∷ state published 2 u23 ∷ state published 2 u24 ∷ state published 2 u25 ∷ state published 2 u26 ∷ state unclaimed 2 u27 ∷ state finished1 2 u28 ∷ []

pub first_run : Run pair_setup (fresh_state 2) first_states
first_run = (s1, (s2, (s3, (s4, (s5, (s6, (s7, (s8, (s9, (s10, (s11, (s12, (s13, (s14, (s15, (s16, (s17, (s18, (s19, (s20, (s21, (s22, (s23, (s24, (s25, (s26, (s27, (s28, tt))))))))))))))))))))))))))))

pub first_along : Along (fresh_state 2 ∷ first_states) first_words
first_along = (refl, inr (refl, inr (refl, inr (refl, inr (refl, inr (refl, inr (refl, inl (refl, inl (refl, inr (refl, inr (refl, inl (refl, inl (refl, inl (refl, inl (refl, inl (refl, inl (refl, inl (refl, inl (refl, inl (refl, inl (refl, inl (refl, inl (refl, inr (refl, inr (refl, inr (refl, inr (refl, inl (refl, inl (refl, inl refl)))))))))))))))))))))))))))))

abbrev pub row_states : List State
row_states = state finished1 2 u29 ∷ state finished1 2 u30 ∷ state finished1 2 u31 ∷ state finished1 2 u32 ∷ state finished1 2 u33 ∷ state stopped 2 u34 ∷ state rewound 2 u35 ∷ state rewound 2 u36 ∷ state laid 2 u37 ∷ state opened 2 u38 ∷ []

row_along : Along row_states (finished1 ∷ row_words)
row_along = (refl, inr (refl, inr (refl, inr (refl, inr (refl, inl (refl, inl (refl, inr (refl, inl (refl, inl (refl, inl refl))))))))))

abbrev pub opened_states : List State
opened_states = first_states ++ row_states

pub opened_run : Run pair_setup (fresh_state 2) opened_states
opened_run = run_append pair_setup (fresh_state 2) first_states row_states first_run (s29, (s30, (s31, (s32, (s33, (s34, (s35, (s36, (s37, (s38, tt))))))))))

pub opened_along : Along (fresh_state 2 ∷ opened_states) opened_words
opened_along = along_on (fresh_state 2) first_states row_states finished1 first_words row_words first_along row_along
