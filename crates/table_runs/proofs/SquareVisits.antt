-- The square's third run: a reader walks at its pin.
use Rattle.std.proofs.Common.{◌++◌, true, false, List, [], ◌∷◌, refl, inl, inr}
use Rattle.table_words.specs.Functions.{update}
use Rattle.table_words.specs.Places.{child_place}
use Rattle.table_words.specs.Views.{Views, Still, At, unread, owns_nothing, Vacant}
use Rattle.table_words.specs.Words.{node}
use Rattle.table_state.specs.Fresh.{fresh_words, fresh_views, idle}
use Rattle.table_steps.specs.PinSteps.{ReadEnds, ReadGoes, ReadFinds}
use Rattle.table_steps.specs.OwnerSteps.{JoinReader}
use Rattle.table_steps.specs.States.{State, state}
use Rattle.table_steps.specs.Steps.{Run, Step, ByReadGoes, ByReadFinds, ByReadEnds, ByUnpinStep, ByJoinReader}
use Rattle.table_runs.specs.PatchWords.{name0}
use Rattle.table_runs.specs.SquareRun.{square_setup, SquareVisits, claimed, drawn, history0, history1, undead, named0, named1, child0, child1, child2, child3, linked0, linked1, published, unclaimed, finished1, stopped, rewound, pinned, given_back}
use Rattle.table_runs.proofs.SquareNotes.{le11, en, le11, lt01, lt02}
use Rattle.table_runs.proofs.SquareRound1.{v1, v2, v3, v4, v5, v6, v7, v8, v9, v10, v11, v12, v13, v14, v15, v16, v17, v18, v19, v20, v21, v22, v23, v24, v25, v26, v27, v28}
use Rattle.table_runs.proofs.SquareSteps1.{s1, s2, s3, s4, s5, s6, s7, s8, s9, s10, s11, s12, s13, s14, s15, s16, s17, s18, s19, s20, s21, s22, s23, s24, s25, s26, s27, s28}
use Rattle.table_runs.proofs.SquareRound2.{v29, v30, v31, v32, v33, v34, v35, v36, v37}
use Rattle.table_runs.proofs.SquareSteps2.{s29, s30, s31, s32, s33, s34, s35, s36, s37}

abbrev pub u38 : Views
u38 = record v37 { read = update v37.read 2 (record (v37.read 2) { went = 0 ∷ (v37.read 2).went; walk = At 0 name0 0 false }) }

pub k38 : ReadGoes square_setup pinned 3 v37 (state pinned 3 u38)
k38 = (2, 1, refl, refl, 0, name0, 0, node 1 0, inl (inr (lt02, refl), refl), refl, inl refl, false, refl, refl)

s38 : Step square_setup (state pinned 3 v37) (state pinned 3 u38)
s38 = ByReadGoes k38

abbrev pub u39 : Views
u39 = record u38 { read = update u38.read 2 (record (u38.read 2) { walk = Still; notes = record { round = 1; name = name0; bisected = true } ∷ (u38.read 2).notes; places = (child_place 2 0 false false, square_setup.child name0 false) ∷ (child_place 2 0 false true, square_setup.child name0 true) ∷ (u38.read 2).places }) }

pub k39 : ReadFinds square_setup pinned 3 u38 (state pinned 3 u39)
k39 = (2, 1, refl, refl, 0, name0, 0, false, refl, lt01, le11, refl)

s39 : Step square_setup (state pinned 3 u38) (state pinned 3 u39)
s39 = ByReadFinds k39

abbrev pub u40 : Views
u40 = record u39 { read = update u39.read 2 (record (u39.read 2) { walk = Still; notes = record { round = 1; name = square_setup.child name0 false; bisected = false } ∷ (u39.read 2).notes }) }

pub k40 : ReadEnds square_setup pinned 3 u39 (state pinned 3 u40)
k40 = (2, 1, refl, refl, child_place 2 0 false false, square_setup.child name0 false, node 0 0, inl (inl (inl refl), refl), inl refl, refl)

s40 : Step square_setup (state pinned 3 u39) (state pinned 3 u40)
s40 = ByReadEnds k40

abbrev pub u41 : Views
u41 = record u40 { read = update u40.read 2 (record (u40.read 2) { pin = 0; went = []; walk = Still; places = [] }) }

s41 : Step square_setup (state pinned 3 u40) (state given_back 3 u41)
s41 = ByUnpinStep (2, 1, refl, refl, refl)

abbrev pub u42 : Views
u42 = record u41 { kind = update u41.kind 2 Vacant; claims = update u41.claims 2 []; work = update u41.work 2 idle; owned = update u41.owned 2 owns_nothing; read = update (update u41.read 0 (record (u41.read 0) { notes = (u41.read 0).notes ++ (u41.read 2).notes })) 2 unread; ruling = record u41.ruling { readers = 0; early = 0 } }

pub k42 : JoinReader square_setup given_back 3 u41 (state given_back 3 u42)
k42 = (2, en 2 0 lt02, refl, refl, 0, 0, refl, inr (le11, refl), refl)

s42 : Step square_setup (state given_back 3 u41) (state given_back 3 u42)
s42 = ByJoinReader k42

abbrev pub run_states : List State
run_states = state (fresh_words 1) 1 v1 ∷ state (fresh_words 1) 2 v2 ∷ state (fresh_words 1) 2 v3 ∷ state (fresh_words 1) 2 v4 ∷ state (fresh_words 1) 2 v5 ∷ state (fresh_words 1) 2 v6 ∷ state claimed 2 v7 ∷ state drawn 2 v8 ∷ state drawn 2 v9 ∷ state drawn 2 v10 ∷ state history0 2 v11 ∷ state history1 2 v12 ∷ state undead 2 v13 ∷ state named0 2 v14 ∷ state named1 2 v15 ∷ state child0 2 v16 ∷ state child1 2 v17 ∷ state child2 2 v18 ∷ state child3 2 v19 ∷ state linked0 2 v20 ∷ state linked1 2 v21 ∷ state published 2 v22 ∷ state published 2 v23 ∷ state published 2 v24 ∷ state published 2 v25 ∷ state published 2 v26 ∷ state unclaimed 2 v27 ∷ state finished1 2 v28 ∷ state finished1 2 v29 ∷ state finished1 2 v30 ∷ state finished1 2 v31 ∷ state finished1 2 v32 ∷ state stopped 2 v33 ∷ state rewound 2 v34 ∷ state rewound 3 v35 ∷ state rewound 3 v36 ∷ state pinned 3 v37 ∷ state pinned 3 u38 ∷ state pinned 3 u39 ∷ state pinned 3 u40 ∷ state given_back 3 u41 ∷ state given_back 3 u42 ∷ []

pub run : Run square_setup (state (fresh_words 1) 1 (fresh_views 1)) run_states
run = (s1, (s2, (s3, (s4, (s5, (s6, (s7, (s8, (s9, (s10, (s11, (s12, (s13, (s14, (s15, (s16, (s17, (s18, (s19, (s20, (s21, (s22, (s23, (s24, (s25, (s26, (s27, (s28, (s29, (s30, (s31, (s32, (s33, (s34, (s35, (s36, (s37, (s38, (s39, (s40, (s41, (s42, tt))))))))))))))))))))))))))))))))))))))))))

pub square_visits : SquareVisits
square_visits = (run_states, run, (refl, inr (refl, inr (refl, inr (refl, inr (refl, inr (refl, inr (refl, inl (refl, inl (refl, inr (refl, inr (refl, inl (refl, inl (refl, inl (refl, inl (refl, inl (refl, inl (refl, inl (refl, inl (refl, inl (refl, inl (refl, inl (refl, inl (refl, inr (refl, inr (refl, inr (refl, inr (refl, inl (refl, inl (refl, inr (refl, inr (refl, inr (refl, inr (refl, inl (refl, inl (refl, inr (refl, inr (refl, inl (refl, inr (refl, inr (refl, inr (refl, inl (refl, inr (refl, inl refl))))))))))))))))))))))))))))))))))))))))))))
