-- The square's run, round 2: a reader pins round 1, and the block is retired and stamped.
use Rattle.std.proofs.Common.{◌≡◌, ℕ, ◌+◌, ◌++◌, Bool, true, false, [], ◌∷◌, refl, inl, inr}
use Rattle.table_words.specs.Places.{child_place}
use Rattle.table_words.specs.Words.{node}
use Rattle.table_words.specs.Functions.{update}
use Rattle.table_words.specs.Views.{no_plan, Views, Still, At, owns_nothing, unread, Resting, FirstHalf, SecondHalf, Closing, Vacant, Worker, Reader}
use Rattle.table_state.specs.Ghosts.{Ghost}
use Rattle.table_state.specs.Fresh.{idle, blank}
use Rattle.table_state.specs.Rule.{Rule}
use Rattle.table_runs.specs.PatchWords.{name0, name1}
use Rattle.table_runs.specs.SquareRun.{square_setup, finished1, stopped, rewound, pinned, retired, stamped0, stamped1, finished2}
use Rattle.table_steps.proofs.Phases.{begins, plans, closes, advances}
use Rattle.table_steps.proofs.Splitting.{splits}
use Rattle.table_steps.proofs.JoiningWorkers.{joins, moved}
use Rattle.table_steps.proofs.Loads.{loads_head, loads_died, loads_row, loads_cursor, loads_free}
use Rattle.table_steps.proofs.WorkerWalks.{goes_to, finds_last, finds_both}
use Rattle.table_steps.proofs.SecondHalf.{gives, opens_stood}
use Rattle.table_steps.proofs.Retiring.{retires}
use Rattle.table_steps.proofs.Pinning.{shows_round, pins}
use Rattle.table_steps.proofs.Sweeping.{stops, rewinds}
use Rattle.table_steps.proofs.RollBack.{stamps_head}
use Rattle.table_runs.proofs.SquareLists.{both, second_plan, second_aim, both_open, none_stays}
use Rattle.table_runs.proofs.SquareNotes.{lt14, both_stamped, children0, children1, en, le00, le01, lt01, lt02, lt03, lt12, many, ne, newly, no_claim, no_head, three, no_half}
use Rattle.table_runs.proofs.SquareRound1.{g28, r28, v28}
use Rattle.table_state.proofs.TableLaws.{walk_sides}

abbrev pub v29 : Views
v29 = record v28 { ruling = record v28.ruling { cursor = finished1.cursor + 1 } }

pub r29 : Rule square_setup finished1 2 v29 g28
r29 = loads_cursor square_setup finished1 2 v28 g28 r28 no_half

abbrev pub v30 : Views
v30 = record v29 { ruling = record v29.ruling { free = finished1.free + 1 } }

pub r30 : Rule square_setup finished1 2 v30 g28
r30 = loads_free square_setup finished1 2 v29 g28 r29

abbrev pub v31 : Views
v31 = record v30 { owned = update v30.owned 0 (record (v30.owned 0) { row = (0, finished1.row 0) ∷ (v30.owned 0).row }) }

pub r31 : Rule square_setup finished1 2 v31 g28
r31 = loads_row square_setup finished1 2 v30 g28 r30 0 0

abbrev pub v32 : Views
v32 = record v31 { ruling = record v31.ruling { free = finished1.free + 1 } }

pub r32 : Rule square_setup finished1 2 v32 g28
r32 = loads_free square_setup finished1 2 v31 g28 r31

abbrev pub v33 : Views
v33 = record v32 { ruling = record v32.ruling { free = 1; low = 1; high = 1 } }

pub r33 : Rule square_setup stopped 2 v33 g28
r33 = stops square_setup finished1 2 v32 g28 r32 refl 1 1 refl refl le00

abbrev pub v34 : Views
v34 = record v33 { ruling = record v33.ruling { cursor = 1 } }

pub r34 : Rule square_setup rewound 2 v34 g28
r34 = rewinds square_setup stopped 2 v33 g28 r33 refl refl

abbrev pub v35 : Views
v35 = record v34 { kind = update v34.kind 2 Reader; claims = update v34.claims 2 []; work = update v34.work 2 (record idle { half = v34.ruling.phase; round = v34.ruling.finished + 1; number = 1; plan = v34.ruling.plan }); owned = update (update v34.owned 0 (v34.owned 0)) 2 owns_nothing; read = update v34.read 2 (record (blank []) { told = v34.ruling.history; seen = v34.ruling.finished; made = v34.ruling.finished }); ruling = record v34.ruling { workers = 0; readers = 1; lone = false } }

pub r35 : Rule square_setup rewound 3 v35 g28
r35 = splits square_setup rewound 2 v34 g28 r34 Reader 0 1 (inr (refl, le01, refl, refl)) 1 false (inl (inl refl, refl)) [] (λ k h. absurd h)

abbrev pub v36 : Views
v36 = record v35 { read = update v35.read 2 (record (v35.read 2) { ready = true; seen = rewound.round }) }

pub r36 : Rule square_setup rewound 3 v36 g28
r36 = shows_round square_setup rewound 3 v35 g28 r35 2 refl true (inl (refl, many))

abbrev pub v37 : Views
v37 = record v36 { read = update v36.read 2 (record (v36.read 2) { pin = rewound.round + 1; ready = false; went = []; walk = Still; places = []; seen = rewound.round }) }

abbrev pub g37 : Ghost
g37 = record g28 { pins = update g28.pins rewound.round (g28.pins rewound.round + 1) }

pub r37 : Rule square_setup pinned 3 v37 g37
r37 = pins square_setup rewound 3 v36 g28 r36 2 refl refl refl

abbrev pub v38 : Views
v38 = record v37 { work = update v37.work 0 idle; ruling = record v37.ruling { phase = FirstHalf; cursor = 0; plan = second_plan } }

abbrev pub g38 : Ghost
g38 = record g37 { who = g37.who }

pub r38 : Rule square_setup pinned 3 v38 g38
r38 = begins square_setup pinned 3 v37 g37 r37 second_plan both refl second_aim lt14 refl refl

abbrev pub v39 : Views
v39 = record v38 { work = update v38.work 0 idle; ruling = record v38.ruling { phase = SecondHalf; plan = record v38.ruling.plan { retire = name0 ∷ [] } } }

abbrev pub g39 : Ghost
g39 = record g38 { who = g38.who }

pub r39 : Rule square_setup pinned 3 v39 g39
r39 = plans square_setup pinned 3 v38 g38 r38 (name0 ∷ []) (λ i h. h) refl refl no_claim

abbrev pub v40 : Views
v40 = record v39 { kind = update v39.kind 3 Worker; claims = update v39.claims 3 []; work = update v39.work 3 (record idle { half = v39.ruling.phase; round = v39.ruling.finished + 1; number = 1; plan = v39.ruling.plan }); owned = update (update v39.owned 0 owns_nothing) 3 owns_nothing; read = update v39.read 3 (record (blank []) { told = v39.ruling.history; seen = v39.ruling.finished; made = v39.ruling.finished }); ruling = record v39.ruling { workers = 1; readers = 1; lone = false } }

pub r40 : Rule square_setup pinned 4 v40 g39
r40 = splits square_setup pinned 3 v39 g39 r39 Worker 1 1 (inl (refl, inr refl, refl, refl)) 1 false (inl (inr refl, refl)) [] (λ k h. absurd h)

pub t41 : Bool
t41 = (goes_to square_setup pinned 4 v40 g39 r40 3 refl 0 name0 0 (node 1 0) (inl ((inr (inr (lt02, refl))), refl)) refl (inl refl)).0

abbrev pub v41 : Views
v41 = record v40 { work = update v40.work 3 (record (v40.work 3) { went = 0 ∷ (v40.work 3).went; walk = At 0 name0 0 t41; found = (v40.work 3).found; known = (v40.work 3).known; absent = (v40.work 3).absent; stood = (v40.work 3).stood; had = (v40.work 3).had }) }

pub r41 : Rule square_setup pinned 4 v41 g39
unfolding t41
r41 = (goes_to square_setup pinned 4 v40 g39 r40 3 refl 0 name0 0 (node 1 0) (inl ((inr (inr (lt02, refl))), refl)) refl (inl refl)).1

abbrev pub v42 : Views
v42 = record v41 { work = update v41.work 3 (record (v41.work 3) { went = (v41.work 3).went; walk = Still; found = (v41.work 3).found; known = (v41.work 3).known; absent = (v41.work 3).absent; stood = (child_place 2 0 t41 false, square_setup.child name0 false) ∷ (child_place 2 0 t41 true, square_setup.child name0 true) ∷ (v41.work 3).stood; had = (0, name0) ∷ (v41.work 3).had }) }

pub r42 : Rule square_setup pinned 4 v42 g39
r42 = finds_last square_setup pinned 4 v41 g39 r41 3 refl 0 name0 0 t41 refl refl lt01 lt12

pub t43 : Bool
t43 = (goes_to square_setup pinned 4 v42 g39 r42 3 refl 1 name1 0 (node 1 0) (inl ((inr (inr (lt12, refl))), refl)) refl (inl refl)).0

abbrev pub v43 : Views
v43 = record v42 { work = update v42.work 3 (record (v42.work 3) { went = 0 ∷ (v42.work 3).went; walk = At 1 name1 0 t43; found = (v42.work 3).found; known = (v42.work 3).known; absent = (v42.work 3).absent; stood = (v42.work 3).stood; had = (v42.work 3).had }) }

pub r43 : Rule square_setup pinned 4 v43 g39
unfolding t43
r43 = (goes_to square_setup pinned 4 v42 g39 r42 3 refl 1 name1 0 (node 1 0) (inl ((inr (inr (lt12, refl))), refl)) refl (inl refl)).1

abbrev pub v44 : Views
v44 = record v43 { work = update v43.work 3 (record (v43.work 3) { went = (v43.work 3).went; walk = (v43.work 3).walk; found = (v43.work 3).found; known = (v43.work 3).known; absent = (v43.work 3).absent; stood = (child_place 2 0 t43 false, square_setup.child name1 false) ∷ (child_place 2 0 t43 true, square_setup.child name1 true) ∷ (v43.work 3).stood; had = (0, name1) ∷ (v43.work 3).had }) }

pub r44 : Rule square_setup pinned 4 v44 g39
r44 = finds_both square_setup pinned 4 v43 g39 r43 3 refl 0 name0 536870912 t43 (inl refl) (((walk_sides square_setup pinned 4 v43 (g39, r43) 3 1 name1 0 t43).0 refl t43).1 refl)

abbrev pub v45 : Views
v45 = record v44 { work = update v44.work 3 (record (v44.work 3) { given = (0, name0) ∷ (v44.work 3).given }) }

pub r45 : Rule square_setup pinned 4 v45 g39
r45 = gives square_setup pinned 4 v44 g39 r44 3 refl refl 0 name0 refl (inr (inl refl))

abbrev pub v46 : Views
v46 = record v45 { work = update v45.work 3 (record (v45.work 3) { open_ = square_setup.child name1 true ∷ (v45.work 3).open_ }) }

pub r46 : Rule square_setup pinned 4 v46 g39
r46 = opens_stood square_setup pinned 4 v45 g39 r45 3 refl refl (child_place 2 0 t43 true) (square_setup.child name1 true) (inr (inl refl)) (inl (no_head t43 true))

abbrev pub v47 : Views
v47 = record v46 { work = update v46.work 3 (record (v46.work 3) { open_ = square_setup.child name1 false ∷ (v46.work 3).open_ }) }

pub r47 : Rule square_setup pinned 4 v47 g39
r47 = opens_stood square_setup pinned 4 v46 g39 r46 3 refl refl (child_place 2 0 t43 false) (square_setup.child name1 false) (inl refl) (inl (no_head t43 false))

abbrev pub v48 : Views
v48 = record v47 { work = update v47.work 3 (record (v47.work 3) { open_ = square_setup.child name0 true ∷ (v47.work 3).open_ }) }

pub r48 : Rule square_setup pinned 4 v48 g39
r48 = opens_stood square_setup pinned 4 v47 g39 r47 3 refl refl (child_place 2 0 t41 true) (square_setup.child name0 true) (inr (inr (inr (inl refl)))) (inl (no_head t41 true))

abbrev pub v49 : Views
v49 = record v48 { work = update v48.work 3 (record (v48.work 3) { open_ = square_setup.child name0 false ∷ (v48.work 3).open_ }) }

pub r49 : Rule square_setup pinned 4 v49 g39
r49 = opens_stood square_setup pinned 4 v48 g39 r48 3 refl refl (child_place 2 0 t41 false) (square_setup.child name0 false) (inr (inr (inl refl))) (inl (no_head t41 false))

pub who_left : ℕ → ℕ → ℕ
who_left = (retires square_setup pinned 4 v49 g39 r49 3 0 name0 (inl refl) refl (inl refl) refl children0 children1 (name0 ∷ name1 ∷ (v49.work 3).open_) newly).0

abbrev pub v50 : Views
v50 = record v49 { work = update v49.work 3 (record (v49.work 3) { open_ = name0 ∷ name1 ∷ (v49.work 3).open_; retired = 0 ∷ (v49.work 3).retired }) }

abbrev pub g50 : Ghost
g50 = record g39 { who = who_left }

pub r50 : Rule square_setup retired 4 v50 g50
unfolding who_left
r50 = (retires square_setup pinned 4 v49 g39 r49 3 0 name0 (inl refl) refl (inl refl) refl children0 children1 (name0 ∷ name1 ∷ (v49.work 3).open_) newly).1

pub gone0 : who_left 2 name0 ≡ 0
gone0 = ((r50.works 3).open_ name0 (inl refl)).1

pub gone1 : who_left 2 name1 ≡ 0
gone1 = ((r50.works 3).open_ name1 (inr (inl refl))).1

pub held0 : who_left 1 name0 ≡ 1
held0 = (r50.walks 3).had 0 name0 (inr (inl refl))

pub held1 : who_left 1 name1 ≡ 1
held1 = (r50.walks 3).had 0 name1 (inl refl)

abbrev pub v51 : Views
v51 = record v50 { kind = update v50.kind 3 Vacant; claims = update (update v50.claims 0 (v50.claims 0 ++ v50.claims 3)) 3 []; work = update (update v50.work 0 record { half = Resting; round = 0; number = 0; plan = no_plan; drawn = (v50.work 0).drawn ++ (v50.work 3).drawn; found = (v50.work 0).found ++ (v50.work 3).found; known = (v50.work 0).known ++ (v50.work 3).known; open_ = (v50.work 0).open_ ++ (v50.work 3).open_; given = (v50.work 0).given ++ (v50.work 3).given; absent = (v50.work 0).absent ++ (v50.work 3).absent; stood = (v50.work 0).stood ++ (v50.work 3).stood; had = (v50.work 0).had ++ (v50.work 3).had; grown = (v50.work 0).grown ++ (v50.work 3).grown; retired = (v50.work 0).retired ++ (v50.work 3).retired; went = []; walk = Still }) 3 idle; owned = update (update v50.owned 0 owns_nothing) 3 owns_nothing; read = update v50.read 3 unread; ruling = record v50.ruling { workers = 0; lone = false } }

abbrev pub g51 : Ghost
g51 = record g50 { stage = λ x. moved 3 (g50.stage x) }

pub r51 : Rule square_setup retired 4 v51 g51
r51 = joins square_setup retired 4 v50 g50 r50 3 (en 3 0 lt03) refl 0 refl

abbrev pub v52 : Views
v52 = record v51 { work = update v51.work 0 idle; ruling = record v51.ruling { phase = Closing; retired = (v51.work 0).retired ++ v51.ruling.retired } }

abbrev pub g52 : Ghost
g52 = record g51 { who = g51.who }

pub r52 : Rule square_setup retired 4 v52 g52
r52 = closes square_setup retired 4 v51 g51 r51 both_open refl refl

abbrev pub v53 : Views
v53 = record v52 { owned = update v52.owned 0 (record (v52.owned 0) { head = (0, retired.head 0) ∷ (v52.owned 0).head }) }

pub r53 : Rule square_setup retired 4 v53 g52
r53 = loads_head square_setup retired 4 v52 g52 r52 0 0

abbrev pub v54 : Views
v54 = record v53 { owned = update v53.owned 0 (record (v53.owned 0) { head = (1, retired.head 1) ∷ (v53.owned 0).head }) }

pub r54 : Rule square_setup retired 4 v54 g52
r54 = loads_head square_setup retired 4 v53 g52 r53 0 1

abbrev pub v55 : Views
v55 = record v54 { owned = update v54.owned 0 (record (v54.owned 0) { died = (0, retired.died 0) ∷ (v54.owned 0).died }) }

pub r55 : Rule square_setup retired 4 v55 g52
r55 = loads_died square_setup retired 4 v54 g52 r54 0 0

abbrev pub v56 : Views
v56 = record v55 { owned = update v55.owned 0 (record (v55.owned 0) { head = (0, node (0 + 1) (retired.round + 1)) ∷ (v55.owned 0).head }) }

pub r56 : Rule square_setup stamped0 4 v56 g52
r56 = stamps_head square_setup retired 4 v55 g52 r55 three refl 0 0 0 2 false (inl refl) (λ h. h) refl (inr (en 1 0 lt01, inl (refl, refl))) (inl (refl, refl))

abbrev pub v57 : Views
v57 = record v56 { owned = update v56.owned 0 (record (v56.owned 0) { head = (1, node (0 + 1) (stamped0.round + 1)) ∷ (v56.owned 0).head }) }

pub r57 : Rule square_setup stamped1 4 v57 g52
r57 = stamps_head square_setup stamped0 4 v56 g52 r56 three refl 1 0 0 2 true (inl refl) (λ h. h) refl (inr (ne 0 1 lt01, inl (refl, refl))) (inl (refl, refl))

abbrev pub v58 : Views
v58 = record v57 { work = update v57.work 0 idle; ruling = record v57.ruling { phase = Resting; finished = v57.ruling.finished + 1; early = v57.ruling.readers; history = v57.ruling.history ++ [] ∷ []; left = (stamped1.round, stamped1.taken) ∷ v57.ruling.left; retired = []; kept = ((v57.work 0).retired ++ v57.ruling.retired) ++ v57.ruling.kept; seen = 0; quiet = false } }

abbrev pub g58 : Ghost
g58 = record g52 { who = update g52.who (stamped1.round + 1 + 1) (g52.who (stamped1.round + 1)) }

pub r58 : Rule square_setup finished2 4 v58 g58
r58 = advances square_setup stamped1 4 v57 g52 r57 [] (λ i h. absurd h) none_stays refl refl both_stamped
