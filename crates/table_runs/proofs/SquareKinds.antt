-- Each kind of step occurs in a run on the square, and what a run reaches is lawful.
use Rattle.std.proofs.Common.{◌≡◌, ℕ, zero, suc, List, [], ◌∷◌, refl, sym, ◌∙◌, ap, subst, inl, inr, arith}
use Rattle.table_words.specs.Functions.{update}
use Rattle.table_words.specs.Views.{Views}
use Rattle.table_words.specs.Words.{Words}
use Rattle.table_words.proofs.Functions.{update_cases}
use Rattle.table_words.specs.Writes.{Write, WriteNothing, WriteRound, WriteCursor, WriteFree, WriteReleased, WriteRow, WriteClaim, WriteLink, WriteLinkAndClaim, WriteHistory, WriteBorn, WriteDied, WriteName, written}
use Rattle.table_steps.specs.Local.{ReaderWrites, OwnerWrites}
use Rattle.mesh_names.specs.Squares.{square}
use Rattle.mesh_names.specs.Validity.{across_of}
use Rattle.mesh_names.proofs.Squares.{squares_fit}
use Rattle.table_words.specs.Setup.{Setup}
use Rattle.table_state.specs.Fresh.{fresh_words, fresh_ghost}
use Rattle.table_state.proofs.Fresh.{fresh_is_lawful}
use Rattle.table_steps.specs.States.{State, state, IsLawful}
use Rattle.table_steps.specs.Steps.{Run, ByClaimStep, ByDrawStep, ByFullStep, ByFillHistory, ByFillName, ByFillDied, ByFillChild, ByLinkFirst, ByLinkSecond, ByPublishStep, ByRetireStep, ByRetiredStep, ByWorkTop, ByWorkEnds, ByWorkGoes, ByWorkFinds, ByWorkHad, ByWorkBoth, ByWorkPasses, ByWorkGives, ByWorkDead, ByWorkOpen, ByLoadHead, ByLoadHistory, ByLoadBorn, ByLoadDied, ByLoadName, ByLoadRow, ByLoadRound, ByPinStep, ByUnpinStep, ByReadEnds, ByReadGoes, ByReadFinds, ByReadPasses, ByNoteDrained, ByLoadCursor, ByLoadFree, ByNoteFree, ByLoadReleased, ByNoteQuiet, ByNotePlaces, BySplitStep, ByJoinWorker, ByJoinReader, ByBeginStep, ByPlanStep, ByCloseStep, ByRefuseStep, ByRestoreStep, ByAdvanceStep, ByStampStep, ByUnclaimStep, ByCutLink, ByCutHistory, ByFreeStep, ByZeroStep, ByStopStep, ByRewindStep, ByRowStep, ByOpenStep, ByUnbearStep, ByUnlinkSecond, ByUnlinkFirst, ByBuryStep, ByUndrawStep}
use Rattle.table_steps.proofs.StepsKeep.{steps_keep}
use Rattle.table_runs.specs.SquareKinds.{square_with, fresh_state, last_of, RunsTo, RunsLawful, TwoWords, WorkersClaim, KindsOccur}
use Rattle.table_runs.specs.SquareRun as one
use Rattle.table_runs.specs.SquareFull as full_words
use Rattle.table_runs.specs.SquareTwice as pair
use Rattle.table_runs.proofs.SquareRound1 as round1
use Rattle.table_runs.proofs.SquareRound2 as round2
use Rattle.table_runs.proofs.SquareRound3 as round3
use Rattle.table_runs.proofs.SquareSteps1 as steps1
use Rattle.table_runs.proofs.SquareSteps2 as steps2
use Rattle.table_runs.proofs.SquareSteps3 as steps3
use Rattle.table_runs.proofs.SquareFollows as main
use Rattle.table_runs.proofs.SquareRefused as refused
use Rattle.table_runs.proofs.SquareVisits as visits
use Rattle.table_runs.proofs.SquareFull as full
use Rattle.table_runs.proofs.SquareUndrawn as undrawn
use Rattle.table_runs.proofs.SquareTwice as whole
use Rattle.table_runs.proofs.SquareTwice1 as twice1
use Rattle.table_runs.proofs.SquareTwice2 as twice2
use Rattle.table_runs.proofs.SquareTwice3 as twice3

-- the first n of the states are a run too
abbrev pub first : ℕ → List State → List State
first zero xs = []
first (suc n) [] = []
first (suc n) (x ∷ xs) = x ∷ first n xs

run_first : (s : Setup) (a : State) (n : ℕ) (states : List State) → Run s a states → Run s a (first n states)
run_first s a zero states r = tt
run_first s a (suc n) [] r = tt
run_first s a (suc n) (b ∷ bs) (step, r) = (step, run_first s b n bs r)

pub reach : (pool : ℕ) (states : List State) → Run (square_with pool) (fresh_state pool) states → (n : ℕ) → RunsTo pool (last_of (fresh_state pool) (first n states))
reach pool states r n = (first n states, run_first (square_with pool) (fresh_state pool) n states r, refl)

ends_lawful : (s : Setup) (a : State) (states : List State) → IsLawful s a → Run s a states → IsLawful s (last_of a states)
ends_lawful s a [] lawful r = lawful
ends_lawful s a (b ∷ bs) lawful (step, r) = ends_lawful s b bs (steps_keep s a b step lawful) r

pub runs_lawful : RunsLawful
runs_lawful pool a (states, r, e) = subst (IsLawful (square_with pool)) e (ends_lawful (square_with pool) (fresh_state pool) states (fresh_ghost, fresh_is_lawful square (across_of square) (squares_fit.0).2 (record { rounds = 4; elements = 2; pool = pool }) 1) r)

-- CURSOR is another after the two
counted : (w : Words) → one.drawn ≡ w → w.cursor ≡ 0 → ⊥
counted w e z = let a : 1 ≡ w.cursor = ap (λ (u : Words). u.cursor) e in omega arith

pub two_words : TwoWords
two_words WriteNothing e = counted _ (sym e) refl
two_words (WriteRound r t) e = counted _ (sym e) refl
two_words (WriteCursor k) e = let a : ◌≡◌ {A = ℕ} 1 0 = ap (λ (u : Words). u.claimed 0) (sym e) in omega arith
two_words (WriteFree k) e = counted _ (sym e) refl
two_words (WriteReleased q k) e = counted _ (sym e) refl
two_words (WriteRow i k) e = counted _ (sym e) refl
two_words (WriteClaim x k) e = counted _ (sym e) refl
two_words (WriteLink x l) e = counted _ (sym e) refl
two_words (WriteLinkAndClaim x l k) e = counted _ (sym e) refl
two_words (WriteHistory h l) e = counted _ (sym e) refl
two_words (WriteBorn c k) e = counted _ (sym e) refl
two_words (WriteDied c k) e = counted _ (sym e) refl
two_words (WriteName h k) e = counted _ (sym e) refl

-- the claim bit is set after the claim
unset : (w : Words) → one.claimed ≡ w → w.claimed 0 ≡ 0 → ⊥
unset w e z = let a : 1 ≡ w.claimed 0 = ap (λ (u : Words). u.claimed 0) e in omega arith

taken_away : (x : ℕ) → update (fresh_words 1).claimed x 0 0 ≡ 0
taken_away x = update_cases (λ _ b. b ≡ 0) (fresh_words 1).claimed x 0 refl (λ _ _. refl) 0

not_readers : (v : Views) (j : ℕ) (u : Write) → written (fresh_words 1) u ≡ one.claimed → ReaderWrites (fresh_words 1) v j u → ⊥
not_readers v j WriteNothing e may = unset _ (sym e) refl
not_readers v j (WriteRound r t) e may = unset _ (sym e) refl
not_readers v j (WriteCursor k) e may = may
not_readers v j (WriteFree k) e may = may
not_readers v j (WriteReleased q k) e may = unset _ (sym e) refl
not_readers v j (WriteRow i k) e may = may
not_readers v j (WriteClaim x k) e may = may
not_readers v j (WriteLink x l) e may = may
not_readers v j (WriteLinkAndClaim x l k) e may = may
not_readers v j (WriteHistory h l) e may = may
not_readers v j (WriteBorn c k) e may = may
not_readers v j (WriteDied c k) e may = may
not_readers v j (WriteName h k) e may = may

not_owners : (v : Views) (u : Write) → written (fresh_words 1) u ≡ one.claimed → OwnerWrites (fresh_words 1) v u → ⊥
not_owners v WriteNothing e may = unset _ (sym e) refl
not_owners v (WriteRound r t) e may = unset _ (sym e) refl
not_owners v (WriteCursor k) e may = unset _ (sym e) refl
not_owners v (WriteFree k) e may = unset _ (sym e) refl
not_owners v (WriteReleased q k) e may = may
not_owners v (WriteRow i k) e may = unset _ (sym e) refl
not_owners v (WriteClaim x k) e may = unset _ (sym e) (subst (λ (i : ℕ). update (fresh_words 1).claimed x i 0 ≡ 0) (sym may) (taken_away x))
not_owners v (WriteLink x l) e may = unset _ (sym e) refl
not_owners v (WriteLinkAndClaim x l k) e may = unset _ (sym e) (subst (λ (i : ℕ). update (fresh_words 1).claimed x i 0 ≡ 0) (sym may) (taken_away x))
not_owners v (WriteHistory h l) e may = unset _ (sym e) refl
not_owners v (WriteBorn c k) e may = unset _ (sym e) refl
not_owners v (WriteDied c k) e may = unset _ (sym e) refl
not_owners v (WriteName h k) e may = may

pub workers_claim : WorkersClaim
workers_claim v j u e (inl n) = absurd (unset (fresh_words 1) (sym e ∙ ap (written (fresh_words 1)) n) refl)
workers_claim v j u e (inr (inl may)) = may.0
workers_claim v j u e (inr (inr (inl may))) = absurd (not_readers v j u e may.1)
workers_claim v j u e (inr (inr (inr may))) = absurd (not_owners v u e may.2)

pub kinds_occur : KindsOccur
kinds_occur = record {
  claim_step = (state (fresh_words 1) 2 round1.v6, state one.claimed 2 round1.v7, reach 1 main.run_states main.run 6, steps1.k7, ByClaimStep steps1.k7);
  draw_step = (state one.claimed 2 round1.v7, state one.drawn 2 round1.v8, reach 1 main.run_states main.run 7, steps1.k8, ByDrawStep steps1.k8);
  full_step = (state full_words.claimed_full 5 full.u66, state full_words.drawn_none 5 full.u67, reach 1 full.run_states full.run 66, full.k67, ByFullStep full.k67);
  fill_history = (state one.drawn 2 round1.v10, state one.history0 2 round1.v11, reach 1 main.run_states main.run 10, steps1.k11, ByFillHistory steps1.k11);
  fill_name = (state one.undead 2 round1.v13, state one.named0 2 round1.v14, reach 1 main.run_states main.run 13, steps1.k14, ByFillName steps1.k14);
  fill_died = (state one.history1 2 round1.v12, state one.undead 2 round1.v13, reach 1 main.run_states main.run 12, steps1.k13, ByFillDied steps1.k13);
  fill_child = (state one.named1 2 round1.v15, state one.child0 2 round1.v16, reach 1 main.run_states main.run 15, steps1.k16, ByFillChild steps1.k16);
  link_first = (state one.child3 2 round1.v19, state one.linked0 2 round1.v20, reach 1 main.run_states main.run 19, steps1.k20, ByLinkFirst steps1.k20);
  link_second = (state one.linked0 2 round1.v20, state one.linked1 2 round1.v21, reach 1 main.run_states main.run 20, steps1.k21, ByLinkSecond steps1.k21);
  publish_step = (state one.linked1 2 round1.v21, state one.published 2 round1.v22, reach 1 main.run_states main.run 21, steps1.k22, ByPublishStep steps1.k22);
  retire_step = (state one.pinned 4 round2.v49, state one.retired 4 round2.v50, reach 1 main.run_states main.run 49, steps2.k50, ByRetireStep steps2.k50);
  retired_step = (state pair.retired 4 twice2.u56, state pair.retired 4 twice2.u57, reach 2 whole.twice_states whole.twice_run 56, twice2.k57, ByRetiredStep twice2.k57);
  work_top = (state (fresh_words 1) 2 round1.v2, state (fresh_words 1) 2 round1.v3, reach 1 main.run_states main.run 2, steps1.k3, ByWorkTop steps1.k3);
  work_ends = (state (fresh_words 1) 2 round1.v4, state (fresh_words 1) 2 round1.v5, reach 1 main.run_states main.run 4, steps1.k5, ByWorkEnds steps1.k5);
  work_goes = (state one.pinned 4 round2.v40, state one.pinned 4 round2.v41, reach 1 main.run_states main.run 40, steps2.k41, ByWorkGoes steps2.k41);
  work_finds = (state pair.published_again 7 twice3.u98, state pair.published_again 7 twice3.u99, reach 2 whole.twice_states whole.twice_run 98, twice3.k99, ByWorkFinds twice3.k99);
  work_had = (state one.pinned 4 round2.v41, state one.pinned 4 round2.v42, reach 1 main.run_states main.run 41, steps2.k42, ByWorkHad steps2.k42);
  work_both = (state one.pinned 4 round2.v43, state one.pinned 4 round2.v44, reach 1 main.run_states main.run 43, steps2.k44, ByWorkBoth steps2.k44);
  work_passes = (state pair.linked3 7 twice3.u94, state pair.linked3 7 twice3.u95, reach 2 whole.twice_states whole.twice_run 94, twice3.k95, ByWorkPasses twice3.k95);
  work_gives = (state one.pinned 4 round2.v44, state one.pinned 4 round2.v45, reach 1 main.run_states main.run 44, steps2.k45, ByWorkGives steps2.k45);
  work_dead = (state pair.retired 4 twice2.u54, state pair.retired 4 twice2.u55, reach 2 whole.twice_states whole.twice_run 54, twice2.k55, ByWorkDead twice2.k55);
  work_open = (state one.pinned 4 round2.v45, state one.pinned 4 round2.v46, reach 1 main.run_states main.run 45, steps2.k46, ByWorkOpen steps2.k46);
  load_head = (state one.drawn 2 round1.v8, state one.drawn 2 round1.v9, reach 1 main.run_states main.run 8, steps1.k9, ByLoadHead steps1.k9);
  load_history = (state one.unpinned 4 round3.v61, state one.unpinned 4 round3.v62, reach 1 main.run_states main.run 61, steps3.k62, ByLoadHistory steps3.k62);
  load_born = (state pair.finished1 2 twice1.u30, state pair.finished1 2 twice1.u31, reach 2 whole.twice_states whole.twice_run 30, twice1.k31, ByLoadBorn twice1.k31);
  load_died = (state one.retired 4 round2.v54, state one.retired 4 round2.v55, reach 1 main.run_states main.run 54, steps2.k55, ByLoadDied steps2.k55);
  load_name = (state pair.linked3 7 twice3.u92, state pair.linked3 7 twice3.u93, reach 2 whole.twice_states whole.twice_run 92, twice3.k93, ByLoadName twice3.k93);
  load_row = (state one.finished1 2 round2.v30, state one.finished1 2 round2.v31, reach 1 main.run_states main.run 30, steps2.k31, ByLoadRow steps2.k31);
  load_round = (state one.rewound 3 round2.v35, state one.rewound 3 round2.v36, reach 1 main.run_states main.run 35, steps2.k36, ByLoadRound steps2.k36);
  pin_step = (state one.rewound 3 round2.v36, state one.pinned 3 round2.v37, reach 1 main.run_states main.run 36, steps2.k37, ByPinStep steps2.k37);
  unpin_step = (state one.finished2 4 round2.v58, state one.unpinned 4 round3.v59, reach 1 main.run_states main.run 58, steps3.k59, ByUnpinStep steps3.k59);
  read_ends = (state one.pinned 3 visits.u39, state one.pinned 3 visits.u40, reach 1 visits.run_states visits.run 39, visits.k40, ByReadEnds visits.k40);
  read_goes = (state one.pinned 3 round2.v37, state one.pinned 3 visits.u38, reach 1 visits.run_states visits.run 37, visits.k38, ByReadGoes visits.k38);
  read_finds = (state one.pinned 3 visits.u38, state one.pinned 3 visits.u39, reach 1 visits.run_states visits.run 38, visits.k39, ByReadFinds visits.k39);
  read_passes = (state pair.published_again 7 twice3.u100, state pair.published_again 7 twice3.u101, reach 2 whole.twice_states whole.twice_run 100, twice3.k101, ByReadPasses twice3.k101);
  note_drained = (state one.unpinned 4 round3.v59, state one.unpinned 4 round3.v60, reach 1 main.run_states main.run 59, steps3.k60, ByNoteDrained steps3.k60);
  load_cursor = (state one.finished1 2 round1.v28, state one.finished1 2 round2.v29, reach 1 main.run_states main.run 28, steps2.k29, ByLoadCursor steps2.k29);
  load_free = (state one.finished1 2 round2.v29, state one.finished1 2 round2.v30, reach 1 main.run_states main.run 29, steps2.k30, ByLoadFree steps2.k30);
  note_free = (state pair.rewound 2 twice1.u35, state pair.rewound 2 twice1.u36, reach 2 whole.twice_states whole.twice_run 35, twice1.k36, ByNoteFree twice1.k36);
  load_released = (state one.buried 2 refused.u31, state one.buried 2 refused.u32, reach 1 refused.run_states refused.run 31, refused.k32, ByLoadReleased refused.k32);
  note_quiet = (state one.buried 2 refused.u32, state one.buried 2 refused.u33, reach 1 refused.run_states refused.run 32, refused.k33, ByNoteQuiet refused.k33);
  note_places = (state one.published 2 round1.v25, state one.published 2 round1.v26, reach 1 main.run_states main.run 25, steps1.k26, ByNotePlaces steps1.k26);
  split_step = (state (fresh_words 1) 1 round1.v1, state (fresh_words 1) 2 round1.v2, reach 1 main.run_states main.run 1, steps1.k2, BySplitStep steps1.k2);
  join_worker = (state one.published 2 round1.v22, state one.published 2 round1.v23, reach 1 main.run_states main.run 22, steps1.k23, ByJoinWorker steps1.k23);
  join_reader = (state one.given_back 3 visits.u41, state one.given_back 3 visits.u42, reach 1 visits.run_states visits.run 41, visits.k42, ByJoinReader visits.k42);
  begin_step = (state (fresh_words 1) 1 round1.v0, state (fresh_words 1) 1 round1.v1, reach 1 main.run_states main.run 0, steps1.k1, ByBeginStep steps1.k1);
  plan_step = (state one.published 2 round1.v23, state one.published 2 round1.v24, reach 1 main.run_states main.run 23, steps1.k24, ByPlanStep steps1.k24);
  close_step = (state one.published 2 round1.v24, state one.published 2 round1.v25, reach 1 main.run_states main.run 24, steps1.k25, ByCloseStep steps1.k25);
  refuse_step = (state one.published 2 refused.u23, state one.published 2 refused.u24, reach 1 refused.run_states refused.run 23, refused.k24, ByRefuseStep refused.k24);
  restore_step = (state one.buried 2 refused.u30, state one.buried 2 refused.u31, reach 1 refused.run_states refused.run 30, refused.k31, ByRestoreStep refused.k31);
  advance_step = (state one.unclaimed 2 round1.v27, state one.finished1 2 round1.v28, reach 1 main.run_states main.run 27, steps1.k28, ByAdvanceStep steps1.k28);
  stamp_step = (state one.retired 4 round2.v55, state one.stamped0 4 round2.v56, reach 1 main.run_states main.run 55, steps2.k56, ByStampStep steps2.k56);
  unclaim_step = (state one.published 2 round1.v26, state one.unclaimed 2 round1.v27, reach 1 main.run_states main.run 26, steps1.k27, ByUnclaimStep steps1.k27);
  cut_link = (state one.unpinned 4 round3.v63, state one.cut0 4 round3.v64, reach 1 main.run_states main.run 63, steps3.k64, ByCutLink steps3.k64);
  cut_history = (state pair.finished3 7 twice3.u116, state pair.cut0 7 twice3.u117, reach 2 whole.twice_states whole.twice_run 116, twice3.k117, ByCutHistory twice3.k117);
  free_step = (state one.cut1 4 round3.v69, state one.cut1 4 round3.v70, reach 1 main.run_states main.run 69, steps3.k70, ByFreeStep steps3.k70);
  zero_step = (state one.cut1 4 round3.v70, state one.unborn 4 round3.v71, reach 1 main.run_states main.run 70, steps3.k71, ByZeroStep steps3.k71);
  stop_step = (state one.finished1 2 round2.v32, state one.stopped 2 round2.v33, reach 1 main.run_states main.run 32, steps2.k33, ByStopStep steps2.k33);
  rewind_step = (state one.stopped 2 round2.v33, state one.rewound 2 round2.v34, reach 1 main.run_states main.run 33, steps2.k34, ByRewindStep steps2.k34);
  row_step = (state one.unborn 4 round3.v71, state one.laid 4 round3.v72, reach 1 main.run_states main.run 71, steps3.k72, ByRowStep steps3.k72);
  open_step = (state one.laid 4 round3.v72, state one.opened 4 round3.v73, reach 1 main.run_states main.run 72, steps3.k73, ByOpenStep steps3.k73);
  unbear_step = (state one.published 2 refused.u26, state one.unpublished 2 refused.u27, reach 1 refused.run_states refused.run 26, refused.k27, ByUnbearStep refused.k27);
  unlink_second = (state one.unpublished 2 refused.u27, state one.unlinked1 2 refused.u28, reach 1 refused.run_states refused.run 27, refused.k28, ByUnlinkSecond refused.k28);
  unlink_first = (state one.unlinked1 2 refused.u28, state one.unlinked0 2 refused.u29, reach 1 refused.run_states refused.run 28, refused.k29, ByUnlinkFirst refused.k29);
  bury_step = (state one.unlinked0 2 refused.u29, state one.buried 2 refused.u30, reach 1 refused.run_states refused.run 29, refused.k30, ByBuryStep refused.k30);
  undraw_step = (state one.drawn 2 undrawn.u10, state full_words.undrawn 2 undrawn.u11, reach 1 undrawn.run_states undrawn.run 10, undrawn.k11, ByUndrawStep undrawn.k11);
}
