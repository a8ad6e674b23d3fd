-- A run on the square in which the pool is full when the patch is claimed, and the round is refused.
use Rattle.std.proofs.Common.{◌≡◌, ℕ, ◌+◌, ◌<◌, ◌≤◌, List, [], ◌∷◌, refl, subst, inl, inr, arith, false}
use Rattle.table_words.specs.Claims.{Progress, Claimed, Failed, Drawn, Half, Whole, Living}
use Rattle.table_words.specs.Views.{Views, Worker, FirstHalf, SecondHalf, RollingBack}
use Rattle.table_words.specs.Words.{node}
use Rattle.table_state.specs.Fresh.{fresh_words}
use Rattle.table_steps.specs.WorkSteps.{FullStep}
use Rattle.table_steps.specs.States.{State, state}
use Rattle.table_steps.specs.Steps.{Run, Step, ByClaimStep, ByFullStep, ByWorkTop, ByWorkEnds, ByLoadCursor, BySplitStep, ByJoinWorker, ByBeginStep, ByRefuseStep, ByRestoreStep, ByUnclaimStep}
use Rattle.table_runs.specs.SquareKinds.{fresh_state}
use Rattle.table_runs.specs.PatchWords.{name0, name1}
use Rattle.table_runs.specs.SquareRun.{square_setup, claimed, drawn, history0, history1, undead, named0, named1, child0, child1, child2, child3, linked0, linked1, published, unclaimed, finished1, stopped, rewound, pinned, retired, stamped0, stamped1, finished2}
use Rattle.table_runs.specs.SquareFull.{claimed_full, drawn_none, unclaimed_full, SquareFull}
use Rattle.table_runs.proofs.SquareLists.{first_plan, first_aim}
use Rattle.table_runs.proofs.SquareMoves.{begun, refused, restored, worker_made, joined, cursor_seen, claims_at, draws_none, unclaims, found_at, finds_absent}
use Rattle.table_runs.proofs.SquareNotes.{lt01, lt02, lt12, lt24, ne, en, no_half}
use Rattle.table_runs.proofs.SquarePair.{lt23}
use Rattle.table_runs.proofs.SquareRound1.{v1, v2, v3, v4, v5, v6, v7, v8, v9, v10, v11, v12, v13, v14, v15, v16, v17, v18, v19, v20, v21, v22, v23, v24, v25, v26, v27, v28}
use Rattle.table_runs.proofs.SquareSteps1.{s1, s2, s3, s4, s5, s6, s7, s8, s9, s10, s11, s12, s13, s14, s15, s16, s17, s18, s19, s20, s21, s22, s23, s24, s25, s26, s27, s28}
use Rattle.table_runs.proofs.SquareRound2.{v29, v30, v31, v32, v33, v34, v35, v36, v37, v38, v39, v40, v41, v42, v43, v44, v45, v46, v47, v48, v49, v50, v51, v52, v53, v54, v55, v56, v57, v58}
use Rattle.table_runs.proofs.SquareSteps2.{s29, s30, s31, s32, s33, s34, s35, s36, s37, s38, s39, s40, s41, s42, s43, s44, s45, s46, s47, s48, s49, s50, s51, s52, s53, s54, s55, s56, s57, s58}

abbrev is_failed : Progress → Type 0
is_failed Failed = Unit {0}
is_failed Claimed = ⊥
is_failed (Drawn b) = ⊥
is_failed (Half b) = ⊥
is_failed (Whole b) = ⊥
is_failed (Living b) = ⊥

far : (RollingBack ≡ FirstHalf → ⊥) × (RollingBack ≡ SecondHalf → ⊥)
far = ((λ e. cc), λ e. cc)

late : (l : 4 < 3) → ⊥
late l = omega arith

le00 : 0 ≤ 0
le00 = omega arith

no_block : (b : ℕ) → 0 ≡ b + 1 → ⊥
no_block b e = omega arith

not_failed : (b : ℕ) → Failed ≡ Living b → ⊥
not_failed b e = subst is_failed e tt

abbrev pub u59 : Views
u59 = cursor_seen 0 v58

s59 : Step square_setup (state finished2 4 v58) (state finished2 4 u59)
s59 = ByLoadCursor (no_half, refl)

abbrev pub u60 : Views
u60 = begun first_plan u59

s60 : Step square_setup (state finished2 4 u59) (state finished2 4 u60)
s60 = ByBeginStep (first_plan, [], refl, first_aim, lt24, refl, refl, refl)

abbrev pub u61 : Views
u61 = worker_made 4 1 u60

s61 : Step square_setup (state finished2 4 u60) (state finished2 5 u61)
s61 = BySplitStep (Worker, 1, 1, inl (refl, inl refl, refl, refl), 1, false, inr (inr (lt01, refl, refl)), [], (λ k h. absurd h), refl)

abbrev pub u62 : Views
u62 = found_at 4 0 name0 u61

s62 : Step square_setup (state finished2 5 u61) (state finished2 5 u62)
s62 = ByWorkTop (4, refl, refl, 0, lt02, refl)

abbrev pub u63 : Views
u63 = found_at 4 1 name1 u62

s63 : Step square_setup (state finished2 5 u62) (state finished2 5 u63)
s63 = ByWorkTop (4, refl, refl, 1, lt12, refl)

abbrev pub u64 : Views
u64 = finds_absent 4 name0 u63

s64 : Step square_setup (state finished2 5 u63) (state finished2 5 u64)
s64 = ByWorkEnds (4, refl, 0, name0, node 1 2, inl (inl (inr (inl refl)), refl), inr (lt02, lt23), refl)

abbrev pub u65 : Views
u65 = finds_absent 4 name1 u64

s65 : Step square_setup (state finished2 5 u64) (state finished2 5 u65)
s65 = ByWorkEnds (4, refl, 1, name1, node 1 2, inl (inl (inl refl), refl), inr (lt02, lt23), refl)

abbrev pub u66 : Views
u66 = claims_at 4 0 2 u65

s66 : Step square_setup (state finished2 5 u65) (state claimed_full 5 u66)
s66 = ByClaimStep (4, 0, 2, name0, refl, refl, refl, inl (inr (inl refl)), inl refl, inr (inl refl), inr (1, 536870912, refl, refl, inl refl), refl)

abbrev pub u67 : Views
u67 = draws_none 4 0 0 u66

pub k67 : FullStep square_setup claimed_full 5 u66 (state drawn_none 5 u67)
k67 = (4, 0, 2, inl refl, refl, le00, refl)

s67 : Step square_setup (state claimed_full 5 u66) (state drawn_none 5 u67)
s67 = ByFullStep k67

abbrev pub u68 : Views
u68 = joined 4 0 u67

s68 : Step square_setup (state drawn_none 5 u67) (state drawn_none 5 u68)
s68 = ByJoinWorker (4, en 4 0 (omega arith), refl, 0, refl, refl)

abbrev pub u69 : Views
u69 = refused u68

s69 : Step square_setup (state drawn_none 5 u68) (state drawn_none 5 u69)
s69 = ByRefuseStep (refl, refl, refl)

abbrev pub u70 : Views
u70 = unclaims 0 2 Failed u69

s70 : Step square_setup (state drawn_none 5 u69) (state unclaimed_full 5 u70)
s70 = ByUnclaimStep (far, late, 0, 2, Failed, inl refl, (λ b e. absurd (no_block b e)), (λ b e f. absurd (not_failed b e)), refl)

abbrev pub u71 : Views
u71 = restored u70

s71 : Step square_setup (state unclaimed_full 5 u70) (state unclaimed_full 5 u71)
s71 = ByRestoreStep (refl, refl, refl)

abbrev pub run_states : List State
run_states = state (fresh_words 1) 1 v1 ∷ state (fresh_words 1) 2 v2 ∷ state (fresh_words 1) 2 v3 ∷ state (fresh_words 1) 2 v4 ∷ state (fresh_words 1) 2 v5 ∷ state (fresh_words 1) 2 v6 ∷ state claimed 2 v7 ∷ state drawn 2 v8 ∷ state drawn 2 v9 ∷ state drawn 2 v10 ∷ state history0 2 v11 ∷ state history1 2 v12 ∷ state undead 2 v13 ∷ state named0 2 v14 ∷ state named1 2 v15 ∷ state child0 2 v16 ∷ state child1 2 v17 ∷ state child2 2 v18 ∷ state child3 2 v19 ∷ state linked0 2 v20 ∷ state linked1 2 v21 ∷ state published 2 v22 ∷ state published 2 v23 ∷ state published 2 v24 ∷ state published 2 v25 ∷ state published 2 v26 ∷ state unclaimed 2 v27 ∷ state finished1 2 v28 ∷ state finished1 2 v29 ∷ state finished1 2 v30 ∷ state finished1 2 v31 ∷ state finished1 2 v32 ∷ state stopped 2 v33 ∷ state rewound 2 v34 ∷ state rewound 3 v35 ∷ state rewound 3 v36 ∷ state pinned 3 v37 ∷ state pinned 3 v38 ∷ state pinned 3 v39 ∷ state pinned 4 v40 ∷ state pinned 4 v41 ∷ state pinned 4 v42 ∷ state pinned 4 v43 ∷ state pinned 4 v44 ∷ state pinned 4 v45 ∷ state pinned 4 v46 ∷ state pinned 4 v47 ∷ state pinned 4 v48 ∷ state pinned 4 v49 ∷ state retired 4 v50 ∷ state retired 4 v51 ∷ state retired 4 v52 ∷ state retired 4 v53 ∷ state retired 4 v54 ∷ state retired 4 v55 ∷ state stamped0 4 v56 ∷ state stamped1 4 v57 ∷ state finished2 4 v58 ∷ state finished2 4 u59 ∷ state finished2 4 u60 ∷ state finished2 5 u61 ∷ state finished2 5 u62 ∷ state finished2 5 u63 ∷ state finished2 5 u64 ∷ state finished2 5 u65 ∷ state claimed_full 5 u66 ∷ state drawn_none 5 u67 ∷ state drawn_none 5 u68 ∷ state drawn_none 5 u69 ∷ state unclaimed_full 5 u70 ∷ state unclaimed_full 5 u71 ∷ []

pub run : Run square_setup (fresh_state 1) run_states
run = (s1, (s2, (s3, (s4, (s5, (s6, (s7, (s8, (s9, (s10, (s11, (s12, (s13, (s14, (s15, (s16, (s17, (s18, (s19, (s20, (s21, (s22, (s23, (s24, (s25, (s26, (s27, (s28, (s29, (s30, (s31, (s32, (s33, (s34, (s35, (s36, (s37, (s38, (s39, (s40, (s41, (s42, (s43, (s44, (s45, (s46, (s47, (s48, (s49, (s50, (s51, (s52, (s53, (s54, (s55, (s56, (s57, (s58, (s59, (s60, (s61, (s62, (s63, (s64, (s65, (s66, (s67, (s68, (s69, (s70, (s71, tt)))))))))))))))))))))))))))))))))))))))))))))))))))))))))))))))))))))))

pub square_full : SquareFull
square_full = (run_states, run, (refl, inr (refl, inr (refl, inr (refl, inr (refl, inr (refl, inr (refl, inl (refl, inl (refl, inr (refl, inr (refl, inl (refl, inl (refl, inl (refl, inl (refl, inl (refl, inl (refl, inl (refl, inl (refl, inl (refl, inl (refl, inl (refl, inl (refl, inr (refl, inr (refl, inr (refl, inr (refl, inl (refl, inl (refl, inr (refl, inr (refl, inr (refl, inr (refl, inl (refl, inl (refl, inr (refl, inr (refl, inl (refl, inr (refl, inr (refl, inr (refl, inr (refl, inr (refl, inr (refl, inr (refl, inr (refl, inr (refl, inr (refl, inr (refl, inr (refl, inl (refl, inr (refl, inr (refl, inr (refl, inr (refl, inr (refl, inl (refl, inl (refl, inl (refl, inr (refl, inr (refl, inr (refl, inr (refl, inr (refl, inr (refl, inr (refl, inl (refl, inl (refl, inr (refl, inr (refl, inl (refl, inr (refl, inl refl)))))))))))))))))))))))))))))))))))))))))))))))))))))))))))))))))))))))))
