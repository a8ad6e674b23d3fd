-- The square's run, round 3: the pin is given back, the block is cut out and drawn again; and the law.
use Rattle.std.proofs.Common.{◌+◌, ◌==◌, cond, true, false, [], ◌∷◌, refl, sym, inl, inr, eqb-true}
use Rattle.table_words.specs.Claims.{Claimed, Drawn, claim}
use Rattle.table_words.specs.Words.{node}
use Rattle.table_words.specs.Claims.{moved_on}
use Rattle.table_words.specs.Functions.{update}
use Rattle.table_words.specs.Views.{Views, Still, owns_nothing, FirstHalf, Worker}
use Rattle.table_state.specs.Ghosts.{Held, Free, Loose, Ghost}
use Rattle.table_state.specs.Fresh.{idle, blank}
use Rattle.table_state.specs.Rule.{Rule}
use Rattle.table_runs.specs.PatchWords.{name0, name1}
use Rattle.table_runs.specs.SquareRun.{square_setup, SquareRuns, finished2, unpinned, cut0, cut1, unborn, laid, opened, claimed_again, drawn_again}
use Rattle.table_steps.proofs.Phases.{begins}
use Rattle.table_steps.proofs.Splitting.{splits}
use Rattle.table_steps.proofs.Loads.{loads_head, loads_history, loads_cursor, notes_drained}
use Rattle.table_steps.proofs.WorkerWalks.{notes_top, ends}
use Rattle.table_steps.proofs.Claiming.{claims}
use Rattle.table_steps.proofs.Draws.{draws_one}
use Rattle.table_steps.proofs.Pinning.{unpins}
use Rattle.table_steps.proofs.Sweeping.{cuts_head, frees_all, zeroes, lays, opens_rows}
use Rattle.table_runs.proofs.SquareLists.{first_plan, first_aim}
use Rattle.table_runs.proofs.SquareNotes.{both_drained, clean_places, en, hand_zero, kept_zero, le11, le22, lt01, lt02, lt04, lt06, lt12, lt14, lt24, lt34, ne, none_left, one_laid, one_row, same_below_one, no_half}
use Rattle.table_runs.proofs.SquareRound1.{g0, g7, g8, g20, g21, g22, g27, g28, r0, r7, r8, r11, r12, r13, r14, r15, r16, r17, r18, r19, r20, r21, r22, r27, r28, v0, v7, v8, v11, v12, v13, v14, v15, v16, v17, v18, v19, v20, v21, v22, v27, v28}
use Rattle.table_runs.proofs.SquareRound2.{g37, g50, g52, g58, gone0, gone1, held0, held1, r33, r34, r37, r50, r56, r57, r58, v33, v34, v37, v50, v56, v57, v58}

abbrev pub v59 : Views
v59 = record v58 { read = update v58.read 2 (record (v58.read 2) { pin = 0; went = []; walk = Still; places = [] }) }

abbrev pub g59 : Ghost
g59 = record g58 { pins = g58.pins }

pub r59 : Rule square_setup unpinned 4 v59 g59
r59 = unpins square_setup finished2 4 v58 g58 r58 2 1 refl refl

abbrev pub v60 : Views
v60 = record v59 { ruling = record v59.ruling { drained = 1 ∷ v59.ruling.drained } }

pub r60 : Rule square_setup unpinned 4 v60 g59
r60 = notes_drained square_setup unpinned 4 v59 g59 r59 1 1 (inl refl) refl

abbrev pub v61 : Views
v61 = record v60 { ruling = record v60.ruling { drained = 0 ∷ v60.ruling.drained } }

pub r61 : Rule square_setup unpinned 4 v61 g59
r61 = notes_drained square_setup unpinned 4 v60 g59 r60 0 0 (inr (inl refl)) refl

abbrev pub v62 : Views
v62 = record v61 { owned = update v61.owned 0 (record (v61.owned 0) { history = (0, unpinned.history 0) ∷ (v61.owned 0).history }) }

pub r62 : Rule square_setup unpinned 4 v62 g59
r62 = loads_history square_setup unpinned 4 v61 g59 r61 0 0

abbrev pub v63 : Views
v63 = record v62 { owned = update v62.owned 0 (record (v62.owned 0) { history = (1, unpinned.history 1) ∷ (v62.owned 0).history }) }

pub r63 : Rule square_setup unpinned 4 v63 g59
r63 = loads_history square_setup unpinned 4 v62 g59 r62 0 1

abbrev pub v64 : Views
v64 = record v63 { owned = update v63.owned 0 (record (v63.owned 0) { head = (0, node 0 0) ∷ (v63.owned 0).head }) }

pub r64 : Rule square_setup cut0 4 v64 g59
r64 = cuts_head square_setup unpinned 4 v63 g59 r63 refl 0 0 2 0 2 false (node 0 0) (inr (en 1 0 lt01, inl (refl, refl))) (inl (refl, refl)) (inr (en 1 0 lt01, inl (refl, refl))) lt02 both_drained (inl refl) (λ h. h) refl

abbrev pub v65 : Views
v65 = record v64 { owned = update v64.owned 0 (record (v64.owned 0) { head = (1, node 0 0) ∷ (v64.owned 0).head }) }

pub r65 : Rule square_setup cut1 4 v65 g59
r65 = cuts_head square_setup cut0 4 v64 g59 r64 refl 1 0 2 0 2 true (node 0 0) (inr (ne 0 1 lt01, inl (refl, refl))) (inl (refl, refl)) (inl (refl, refl)) lt02 both_drained (inl refl) (λ h. h) refl

abbrev pub v66 : Views
v66 = record v65 { owned = update v65.owned 0 (record (v65.owned 0) { head = (2, cut1.head 2) ∷ (v65.owned 0).head }) }

pub r66 : Rule square_setup cut1 4 v66 g59
r66 = loads_head square_setup cut1 4 v65 g59 r65 0 2

abbrev pub v67 : Views
v67 = record v66 { owned = update v66.owned 0 (record (v66.owned 0) { head = (3, cut1.head 3) ∷ (v66.owned 0).head }) }

pub r67 : Rule square_setup cut1 4 v67 g59
r67 = loads_head square_setup cut1 4 v66 g59 r66 0 3

abbrev pub v68 : Views
v68 = record v67 { owned = update v67.owned 0 (record (v67.owned 0) { head = (4, cut1.head 4) ∷ (v67.owned 0).head }) }

pub r68 : Rule square_setup cut1 4 v68 g59
r68 = loads_head square_setup cut1 4 v67 g59 r67 0 4

abbrev pub v69 : Views
v69 = record v68 { ruling = record v68.ruling { cursor = cut1.cursor + 1 } }

pub r69 : Rule square_setup cut1 4 v69 g59
r69 = loads_cursor square_setup cut1 4 v68 g59 r68 no_half

abbrev pub v70 : Views
v70 = record v69 { ruling = record v69.ruling { hand = 0 ∷ []; rolled_back = []; kept = []; placed = [] } }

abbrev pub g70 : Ghost
g70 = record g59 { life = λ c. cond (c == 0) Free (g59.life c) }

pub r70 : Rule square_setup cut1 4 v70 g70
r70 = frees_all square_setup cut1 4 v69 g59 r69 refl (λ c. c == 0) (0 ∷ []) [] [] [] (λ c h. inr (2, 0, 2, inl (sym (eqb-true c 0 h), refl), lt02, le22, both_drained, inl (λ i. (eqb-true c 0 h i, 0, 2)), clean_places)) hand_zero (λ c. ((λ h. absurd h), λ h. absurd h)) kept_zero none_left

abbrev pub v71 : Views
v71 = record v70 { owned = update v70.owned 0 (record (v70.owned 0) { born = (0, 0) ∷ (v70.owned 0).born }) }

pub r71 : Rule square_setup unborn 4 v71 g70
r71 = zeroes square_setup cut1 4 v70 g70 r70 refl 0 (inl refl)

abbrev pub v72 : Views
v72 = record v71 { owned = update v71.owned 0 (record (v71.owned 0) { row = (0, 0) ∷ (v71.owned 0).row }) }

pub r72 : Rule square_setup laid 4 v72 g70
r72 = lays square_setup unborn 4 v71 g70 r71 refl 0 0 refl (inl lt01)

abbrev pub v73 : Views
v73 = record v72 { ruling = record v72.ruling { hand = []; free = 1 + 1; low = 0; high = 0 } }

pub r73 : Rule square_setup opened 4 v73 g70
r73 = opens_rows square_setup laid 4 v72 g70 r72 refl 1 [] refl refl (λ _. le11) (one_row 1 0 []) (λ i j b l m. same_below_one i j l.0 m.0) (one_laid 1 0 [])

abbrev pub v74 : Views
v74 = record v73 { ruling = record v73.ruling { cursor = opened.cursor + 1 } }

pub r74 : Rule square_setup opened 4 v74 g70
r74 = loads_cursor square_setup opened 4 v73 g70 r73 no_half

abbrev pub v75 : Views
v75 = record v74 { work = update v74.work 0 idle; ruling = record v74.ruling { phase = FirstHalf; cursor = 0; plan = first_plan } }

abbrev pub g75 : Ghost
g75 = record g70 { who = g70.who }

pub r75 : Rule square_setup opened 4 v75 g75
r75 = begins square_setup opened 4 v74 g70 r74 first_plan [] refl first_aim lt24 refl refl

abbrev pub v76 : Views
v76 = record v75 { kind = update v75.kind 4 Worker; claims = update v75.claims 4 []; work = update v75.work 4 (record idle { half = v75.ruling.phase; round = v75.ruling.finished + 1; number = 1; plan = v75.ruling.plan }); owned = update (update v75.owned 0 owns_nothing) 4 owns_nothing; read = update v75.read 4 (record (blank []) { told = v75.ruling.history; seen = v75.ruling.finished; made = v75.ruling.finished }); ruling = record v75.ruling { workers = 1; readers = 1; lone = false } }

pub r76 : Rule square_setup opened 5 v76 g75
r76 = splits square_setup opened 4 v75 g75 r75 Worker 1 1 (inl (refl, inl refl, refl, refl)) 1 false (inr (inr (lt01, refl, refl))) [] (λ k h. absurd h)

abbrev pub v77 : Views
v77 = record v76 { work = update v76.work 4 (record (v76.work 4) { went = (v76.work 4).went; walk = (v76.work 4).walk; found = (0, square_setup.top 0) ∷ (v76.work 4).found; known = (v76.work 4).known; absent = (v76.work 4).absent; stood = (v76.work 4).stood; had = (v76.work 4).had }) }

pub r77 : Rule square_setup opened 5 v77 g75
r77 = notes_top square_setup opened 5 v76 g75 r76 4 refl refl 0 lt02

abbrev pub v78 : Views
v78 = record v77 { work = update v77.work 4 (record (v77.work 4) { went = (v77.work 4).went; walk = (v77.work 4).walk; found = (1, square_setup.top 1) ∷ (v77.work 4).found; known = (v77.work 4).known; absent = (v77.work 4).absent; stood = (v77.work 4).stood; had = (v77.work 4).had }) }

pub r78 : Rule square_setup opened 5 v78 g75
r78 = notes_top square_setup opened 5 v77 g75 r77 4 refl refl 1 lt12

abbrev pub v79 : Views
v79 = record v78 { work = update v78.work 4 (record (v78.work 4) { went = (v78.work 4).went; walk = Still; found = (v78.work 4).found; known = (v78.work 4).known; absent = name0 ∷ (v78.work 4).absent; stood = (v78.work 4).stood; had = (v78.work 4).had }) }

pub r79 : Rule square_setup opened 5 v79 g75
r79 = ends square_setup opened 5 v78 g75 r78 4 refl 0 name0 (node 0 0) (inl ((inl (inr (inl refl))), refl)) (inl refl)

abbrev pub v80 : Views
v80 = record v79 { work = update v79.work 4 (record (v79.work 4) { went = (v79.work 4).went; walk = Still; found = (v79.work 4).found; known = (v79.work 4).known; absent = name1 ∷ (v79.work 4).absent; stood = (v79.work 4).stood; had = (v79.work 4).had }) }

pub r80 : Rule square_setup opened 5 v80 g75
r80 = ends square_setup opened 5 v79 g75 r79 4 refl 1 name1 (node 0 0) (inl ((inl (inl refl)), refl)) (inl refl)

abbrev pub v81 : Views
v81 = record v80 { claims = update v80.claims 4 (claim 0 2 Claimed ∷ v80.claims 4); owned = update v80.owned 4 owns_nothing }

abbrev pub g81 : Ghost
g81 = record g75 { stage = update g75.stage 0 (Held 4 2 Claimed) }

pub r81 : Rule square_setup claimed_again 5 v81 g81
r81 = claims square_setup opened 5 v80 g75 r80 4 0 2 name0 refl refl refl lt06 (inl (inr (inl refl))) (inl refl) (inr (inl refl)) (inr (1, 536870912, refl, refl, inl refl))

abbrev pub v82 : Views
v82 = record v81 { claims = update v81.claims 4 (moved_on (v81.claims 4) 0 (Drawn (claimed_again.row claimed_again.cursor))); work = update v81.work 4 (record (v81.work 4) { drawn = (claimed_again.cursor, claimed_again.row claimed_again.cursor + 1) ∷ (v81.work 4).drawn }); owned = update v81.owned 4 owns_nothing }

abbrev pub g82 : Ghost
g82 = record g81 { stage = update g81.stage 0 (Held 4 2 (Drawn (claimed_again.row claimed_again.cursor))); life = update g81.life (claimed_again.row claimed_again.cursor) (Loose (0 + 1)) }

pub r82 : Rule square_setup drawn_again 5 v82 g82
r82 = draws_one square_setup claimed_again 5 v81 g81 r81 4 0 2 (inl refl) refl lt01

pub table_runs : SquareRuns
table_runs = record {
  fresh = (1, v0, g0, r0, inl (inl refl), refl, refl);
  claimed = (2, v7, g7, r7, inr (refl, lt14), refl, refl);
  drawn = (2, v8, g8, r8, inr (refl, lt14), refl, refl);
  filled = ((2, v11, g8, r11, inr (refl, lt14), refl, refl), (2, v12, g8, r12, inr (refl, lt14), refl, refl), (2, v13, g8, r13, inr (refl, lt14), refl, refl), (2, v14, g8, r14, inr (refl, lt14), refl, refl), (2, v15, g8, r15, inr (refl, lt14), refl, refl), (2, v16, g8, r16, inr (refl, lt14), refl, refl), (2, v17, g8, r17, inr (refl, lt14), refl, refl), (2, v18, g8, r18, inr (refl, lt14), refl, refl), (2, v19, g8, r19, inr (refl, lt14), refl, refl));
  linked = ((2, v20, g20, r20, inr (refl, lt14), refl, refl), (2, v21, g21, r21, inr (refl, lt14), refl, refl));
  published = ((2, v22, g22, r22, inl (inl refl), refl, refl), (2, v22, g22, r22, inr (refl, lt14), refl, refl));
  unclaimed = (2, v27, g27, r27, inr (refl, lt34), refl, refl);
  finished = ((2, v28, g28, r28, inl (inl refl), refl, refl), (2, v33, g28, r33, inl (inl refl), refl, refl), (2, v34, g28, r34, inl (inl refl), refl, refl));
  pinned = ((3, v37, g37, r37, inl (inl refl), refl, refl), (3, v37, g37, r37, inr (refl, lt04), refl, refl));
  retired = ((4, v50, g50, r50, inl (inl refl), held0, held1), (4, v50, g50, r50, inr (refl, lt24), gone0, gone1));
  stamped = ((4, v56, g52, r56, inl (inl refl), held0, held1), (4, v57, g52, r57, inl (inl refl), held0, held1), (4, v57, g52, r57, inr (refl, lt34), gone0, gone1));
  finished_again = ((4, v58, g58, r58, inl (inr (2, refl)), held0, held1), (4, v58, g58, r58, inl (inl refl), gone0, gone1));
  unpinned = (4, v59, g59, r59, inl (inl refl), gone0, gone1);
  cut = ((4, v64, g59, r64, inl (inl refl), gone0, gone1), (4, v65, g59, r65, inl (inl refl), gone0, gone1));
  freed = ((4, v71, g70, r71, inl (inl refl), gone0, gone1), (4, v72, g70, r72, inl (inl refl), gone0, gone1), (4, v73, g70, r73, inl (inl refl), gone0, gone1));
  reused = ((5, v81, g81, r81, inr (refl, lt14), gone0, gone1), (5, v82, g82, r82, inr (refl, lt14), gone0, gone1));
}
