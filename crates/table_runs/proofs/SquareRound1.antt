-- The square's run, round 1: the patch is claimed, its block is drawn, filled, linked and published.
use Rattle.std.proofs.Common.{⊎_elim, ◌+◌, ℕ, ◌++◌, true, false, [], ◌∷◌, refl, ap, inl, inr}
use Rattle.mesh_names.specs.Squares.{square}
use Rattle.mesh_names.specs.Validity.{across_of}
use Rattle.mesh_names.proofs.Squares.{squares_fit}
use Rattle.table_words.specs.Claims.{Claimed, Drawn, Half, Whole, Living, claim}
use Rattle.table_words.specs.Places.{member_of, child_place}
use Rattle.table_words.specs.Words.{node}
use Rattle.table_words.specs.Claims.{moved_on, ended}
use Rattle.table_words.specs.Functions.{update}
use Rattle.table_words.specs.Views.{no_plan, Views, Still, owns_nothing, unread, Resting, FirstHalf, SecondHalf, Closing, Vacant, Worker}
use Rattle.table_state.specs.Ghosts.{Open, Held, Loose, Placed, Ghost}
use Rattle.table_state.specs.Fresh.{fresh_words, fresh_views, fresh_ghost, idle, blank}
use Rattle.table_state.proofs.Bisections.{marks}
use Rattle.table_state.specs.Rule.{Rule}
use Rattle.table_runs.specs.PatchWords.{name0, name1}
use Rattle.table_runs.specs.SquareRun.{square_setup, claimed, drawn, history0, history1, undead, named0, named1, child0, child1, child2, child3, linked0, linked1, published, unclaimed, finished1}
use Rattle.table_state.proofs.Fresh.{fresh_is_lawful}
use Rattle.table_steps.proofs.Phases.{begins, plans, closes, advances}
use Rattle.table_steps.proofs.Splitting.{splits}
use Rattle.table_steps.proofs.JoiningWorkers.{joins, moved}
use Rattle.table_steps.proofs.Loads.{loads_head, notes_placed}
use Rattle.table_steps.proofs.WorkerWalks.{notes_top, ends}
use Rattle.table_steps.proofs.Claiming.{claims}
use Rattle.table_steps.proofs.Draws.{draws_one}
use Rattle.table_steps.proofs.Filling.{fills_history, fills_name, fills_died, fills_child}
use Rattle.table_steps.proofs.FirstLink.{links}
use Rattle.table_steps.proofs.SecondLink.{links_second}
use Rattle.table_steps.proofs.Publishing.{publishes}
use Rattle.table_steps.proofs.RollBack.{unclaims}
use Rattle.table_runs.proofs.SquareLists.{both, first_plan, first_aim, none_listed, both_stay}
use Rattle.table_runs.proofs.SquareNotes.{lt04, en, kids_noted, living_claim, lt01, lt02, lt06, lt12, not_less, not_living, old_words, only_zero, past_four, three}

abbrev pub v0 : Views
v0 = fresh_views 1

abbrev pub g0 : Ghost
g0 = fresh_ghost

pub r0 : Rule square_setup (fresh_words 1) 1 v0 g0
r0 = fresh_is_lawful square (across_of square) (squares_fit.0).2 record { rounds = 4; elements = 2; pool = 1 } 1

abbrev pub v1 : Views
v1 = record v0 { work = update v0.work 0 idle; ruling = record v0.ruling { phase = FirstHalf; cursor = 0; plan = first_plan } }

abbrev pub g1 : Ghost
g1 = record g0 { who = g0.who }

pub r1 : Rule square_setup (fresh_words 1) 1 v1 g1
r1 = begins square_setup (fresh_words 1) 1 v0 g0 r0 first_plan [] refl first_aim lt04 refl refl

abbrev pub v2 : Views
v2 = record v1 { kind = update v1.kind 1 Worker; claims = update v1.claims 1 []; work = update v1.work 1 (record idle { half = v1.ruling.phase; round = v1.ruling.finished + 1; number = 1; plan = v1.ruling.plan }); owned = update (update v1.owned 0 owns_nothing) 1 owns_nothing; read = update v1.read 1 (record (blank []) { told = v1.ruling.history; seen = v1.ruling.finished; made = v1.ruling.finished }); ruling = record v1.ruling { workers = 1; readers = 0; lone = false } }

pub r2 : Rule square_setup (fresh_words 1) 2 v2 g1
r2 = splits square_setup (fresh_words 1) 1 v1 g1 r1 Worker 1 0 (inl (refl, inl refl, refl, refl)) 1 false (inr (inr (lt01, refl, refl))) [] (λ k h. absurd h)

abbrev pub v3 : Views
v3 = record v2 { work = update v2.work 1 (record (v2.work 1) { went = (v2.work 1).went; walk = (v2.work 1).walk; found = (0, square_setup.top 0) ∷ (v2.work 1).found; known = (v2.work 1).known; absent = (v2.work 1).absent; stood = (v2.work 1).stood; had = (v2.work 1).had }) }

pub r3 : Rule square_setup (fresh_words 1) 2 v3 g1
r3 = notes_top square_setup (fresh_words 1) 2 v2 g1 r2 1 refl refl 0 lt02

abbrev pub v4 : Views
v4 = record v3 { work = update v3.work 1 (record (v3.work 1) { went = (v3.work 1).went; walk = (v3.work 1).walk; found = (1, square_setup.top 1) ∷ (v3.work 1).found; known = (v3.work 1).known; absent = (v3.work 1).absent; stood = (v3.work 1).stood; had = (v3.work 1).had }) }

pub r4 : Rule square_setup (fresh_words 1) 2 v4 g1
r4 = notes_top square_setup (fresh_words 1) 2 v3 g1 r3 1 refl refl 1 lt12

abbrev pub v5 : Views
v5 = record v4 { work = update v4.work 1 (record (v4.work 1) { went = (v4.work 1).went; walk = Still; found = (v4.work 1).found; known = (v4.work 1).known; absent = name0 ∷ (v4.work 1).absent; stood = (v4.work 1).stood; had = (v4.work 1).had }) }

pub r5 : Rule square_setup (fresh_words 1) 2 v5 g1
r5 = ends square_setup (fresh_words 1) 2 v4 g1 r4 1 refl 0 name0 (node 0 0) (inl ((inl (inr (inl refl))), refl)) (inl refl)

abbrev pub v6 : Views
v6 = record v5 { work = update v5.work 1 (record (v5.work 1) { went = (v5.work 1).went; walk = Still; found = (v5.work 1).found; known = (v5.work 1).known; absent = name1 ∷ (v5.work 1).absent; stood = (v5.work 1).stood; had = (v5.work 1).had }) }

pub r6 : Rule square_setup (fresh_words 1) 2 v6 g1
r6 = ends square_setup (fresh_words 1) 2 v5 g1 r5 1 refl 1 name1 (node 0 0) (inl ((inl (inl refl)), refl)) (inl refl)

abbrev pub v7 : Views
v7 = record v6 { claims = update v6.claims 1 (claim 0 2 Claimed ∷ v6.claims 1); owned = update v6.owned 1 owns_nothing }

abbrev pub g7 : Ghost
g7 = record g1 { stage = update g1.stage 0 (Held 1 2 Claimed) }

pub r7 : Rule square_setup claimed 2 v7 g7
r7 = claims square_setup (fresh_words 1) 2 v6 g1 r6 1 0 2 name0 refl refl refl lt06 (inl (inr (inl refl))) (inl refl) (inr (inl refl)) (inr (1, 536870912, refl, refl, inl refl))

abbrev pub v8 : Views
v8 = record v7 { claims = update v7.claims 1 (moved_on (v7.claims 1) 0 (Drawn (claimed.row claimed.cursor))); work = update v7.work 1 (record (v7.work 1) { drawn = (claimed.cursor, claimed.row claimed.cursor + 1) ∷ (v7.work 1).drawn }); owned = update v7.owned 1 owns_nothing }

abbrev pub g8 : Ghost
g8 = record g7 { stage = update g7.stage 0 (Held 1 2 (Drawn (claimed.row claimed.cursor))); life = update g7.life (claimed.row claimed.cursor) (Loose (0 + 1)) }

pub r8 : Rule square_setup drawn 2 v8 g8
r8 = draws_one square_setup claimed 2 v7 g7 r7 1 0 2 (inl refl) refl lt01

abbrev pub v9 : Views
v9 = record v8 { owned = update v8.owned 1 (record (v8.owned 1) { head = (0, drawn.head 0) ∷ (v8.owned 1).head }) }

pub r9 : Rule square_setup drawn 2 v9 g8
r9 = loads_head square_setup drawn 2 v8 g8 r8 1 0

abbrev pub v10 : Views
v10 = record v9 { owned = update v9.owned 1 (record (v9.owned 1) { head = (1, drawn.head 1) ∷ (v9.owned 1).head }) }

pub r10 : Rule square_setup drawn 2 v10 g8
r10 = loads_head square_setup drawn 2 v9 g8 r9 1 1

abbrev pub v11 : Views
v11 = record v10 { owned = update v10.owned 1 (record (v10.owned 1) { history = (member_of 0 false, node 0 0) ∷ (v10.owned 1).history }) }

pub r11 : Rule square_setup history0 2 v11 g8
r11 = fills_history square_setup drawn 2 v10 g8 r10 1 0 2 0 (inl refl) refl false (node 0 0)

abbrev pub v12 : Views
v12 = record v11 { owned = update v11.owned 1 (record (v11.owned 1) { history = (member_of 0 true, node 0 0) ∷ (v11.owned 1).history }) }

pub r12 : Rule square_setup history1 2 v12 g8
r12 = fills_history square_setup history0 2 v11 g8 r11 1 0 2 0 (inl refl) refl true (node 0 0)

abbrev pub v13 : Views
v13 = record v12 { owned = update v12.owned 1 (record (v12.owned 1) { died = (0, 0) ∷ (v12.owned 1).died }) }

pub r13 : Rule square_setup undead 2 v13 g8
r13 = fills_died square_setup history1 2 v12 g8 r12 1 0 2 0 (inl refl) refl 0

abbrev pub v14 : Views
v14 = record v13 { owned = update v13.owned 1 (record (v13.owned 1) { name = (member_of 0 false, name0) ∷ (v13.owned 1).name }) }

pub r14 : Rule square_setup named0 2 v14 g8
r14 = fills_name square_setup undead 2 v13 g8 r13 1 0 2 0 (inl refl) refl false name0

abbrev pub v15 : Views
v15 = record v14 { owned = update v14.owned 1 (record (v14.owned 1) { name = (member_of 0 true, name1) ∷ (v14.owned 1).name }) }

pub r15 : Rule square_setup named1 2 v15 g8
r15 = fills_name square_setup named0 2 v14 g8 r14 1 0 2 0 (inl refl) refl true name1

abbrev pub v16 : Views
v16 = record v15 { owned = update v15.owned 1 (record (v15.owned 1) { head = (child_place 2 0 false false, node 0 0) ∷ (v15.owned 1).head }) }

pub r16 : Rule square_setup child0 2 v16 g8
r16 = fills_child square_setup named1 2 v15 g8 r15 1 0 2 0 (inl refl) refl false false (node 0 0)

abbrev pub v17 : Views
v17 = record v16 { owned = update v16.owned 1 (record (v16.owned 1) { head = (child_place 2 0 false true, node 0 0) ∷ (v16.owned 1).head }) }

pub r17 : Rule square_setup child1 2 v17 g8
r17 = fills_child square_setup child0 2 v16 g8 r16 1 0 2 0 (inl refl) refl false true (node 0 0)

abbrev pub v18 : Views
v18 = record v17 { owned = update v17.owned 1 (record (v17.owned 1) { head = (child_place 2 0 true false, node 0 0) ∷ (v17.owned 1).head }) }

pub r18 : Rule square_setup child2 2 v18 g8
r18 = fills_child square_setup child1 2 v17 g8 r17 1 0 2 0 (inl refl) refl true false (node 0 0)

abbrev pub v19 : Views
v19 = record v18 { owned = update v18.owned 1 (record (v18.owned 1) { head = (child_place 2 0 true true, node 0 0) ∷ (v18.owned 1).head }) }

pub r19 : Rule square_setup child3 2 v19 g8
r19 = fills_child square_setup child2 2 v18 g8 r18 1 0 2 0 (inl refl) refl true true (node 0 0)

abbrev pub v20 : Views
v20 = record v19 { claims = update v19.claims 1 (moved_on (v19.claims 1) 0 (Half 0)) }

abbrev pub g20 : Ghost
g20 = record g8 { stage = update g8.stage 0 (Held 1 2 (Half 0)); life = update g8.life 0 (Placed 0 2) }

pub r20 : Rule square_setup linked0 2 v20 g20
r20 = links square_setup child3 2 v19 g8 r19 1 0 2 0 name0 (inl refl) refl (inl (refl, refl)) (inr (en 1 0 lt01, inl (refl, refl))) (inl (refl, refl)) refl (kids_noted ((1, node 0 0) ∷ (0, node 0 0) ∷ [])) old_words (inr (inl refl)) (inr (1, 536870912, refl, refl, inl refl)) (Half 0) (inl refl)

abbrev pub v21 : Views
v21 = record v20 { claims = update v20.claims 1 (moved_on (v20.claims 1) 0 (Whole 0)) }

abbrev pub g21 : Ghost
g21 = record g20 { stage = update g20.stage 0 (Held 1 (1 + 1) (Whole 0)) }

pub r21 : Rule square_setup linked1 2 v21 g21
r21 = links_second square_setup linked0 2 v20 g20 r20 1 0 1 0 (node 0 0) (inl refl) refl (past_four ((1, node 0 0) ∷ (0, node 0 0) ∷ []) 1 (node 0 0) lt12 (inl (refl, refl))) (inl (refl, refl))

abbrev pub v22 : Views
v22 = record v21 { claims = update v21.claims 1 (moved_on (v21.claims 1) 0 (Living 0)); work = update v21.work 1 (record (v21.work 1) { known = name0 ∷ [] }) }

abbrev pub g22 : Ghost
g22 = record g21 { stage = update g21.stage 0 (Held 1 2 (Living 0)); who = update g21.who (linked1.round + 1) (marks 2 (linked1.name (member_of 0 false)) (linked1.name (member_of 0 true)) (0 + 1) (g21.who (linked1.round + 1))) }

pub r22 : Rule square_setup published 2 v22 g22
r22 = publishes square_setup linked1 2 v21 g21 r21 1 0 2 0 (inl refl) refl (name0 ∷ []) (λ k h. ⊎_elim (λ e. inr (0, inl refl, inr (inl (ap (λ (i : ℕ). (0, i)) e)))) (λ f. absurd f) h)

abbrev pub v23 : Views
v23 = record v22 { kind = update v22.kind 1 Vacant; claims = update (update v22.claims 0 (v22.claims 0 ++ v22.claims 1)) 1 []; work = update (update v22.work 0 record { half = Resting; round = 0; number = 0; plan = no_plan; drawn = (v22.work 0).drawn ++ (v22.work 1).drawn; found = (v22.work 0).found ++ (v22.work 1).found; known = (v22.work 0).known ++ (v22.work 1).known; open_ = (v22.work 0).open_ ++ (v22.work 1).open_; given = (v22.work 0).given ++ (v22.work 1).given; absent = (v22.work 0).absent ++ (v22.work 1).absent; stood = (v22.work 0).stood ++ (v22.work 1).stood; had = (v22.work 0).had ++ (v22.work 1).had; grown = (v22.work 0).grown ++ (v22.work 1).grown; retired = (v22.work 0).retired ++ (v22.work 1).retired; went = []; walk = Still }) 1 idle; owned = update (update v22.owned 0 owns_nothing) 1 owns_nothing; read = update v22.read 1 unread; ruling = record v22.ruling { workers = 0; lone = false } }

abbrev pub g23 : Ghost
g23 = record g22 { stage = λ x. moved 1 (g22.stage x) }

pub r23 : Rule square_setup published 2 v23 g23
r23 = joins square_setup published 2 v22 g22 r22 1 (en 1 0 lt01) refl 0 refl

abbrev pub v24 : Views
v24 = record v23 { work = update v23.work 0 idle; ruling = record v23.ruling { phase = SecondHalf; plan = record v23.ruling.plan { retire = [] } } }

abbrev pub g24 : Ghost
g24 = record g23 { who = g23.who }

pub r24 : Rule square_setup published 2 v24 g24
r24 = plans square_setup published 2 v23 g23 r23 [] (λ i h. h) refl refl living_claim

abbrev pub v25 : Views
v25 = record v24 { work = update v24.work 0 idle; ruling = record v24.ruling { phase = Closing; retired = (v24.work 0).retired ++ v24.ruling.retired } }

abbrev pub g25 : Ghost
g25 = record g24 { who = g24.who }

pub r25 : Rule square_setup published 2 v25 g25
r25 = closes square_setup published 2 v24 g24 r24 (none_listed []) refl refl

abbrev pub v26 : Views
v26 = record v25 { ruling = record v25.ruling { placed = (0, 0, 2) ∷ v25.ruling.placed } }

pub r26 : Rule square_setup published 2 v26 g25
r26 = notes_placed square_setup published 2 v25 g25 r25 0 0 2 (inl refl)

abbrev pub v27 : Views
v27 = record v26 { claims = update v26.claims 0 (ended (v26.claims 0) 0); ruling = record v26.ruling { placed = (0, 0, 2) ∷ v26.ruling.placed } }

abbrev pub g27 : Ghost
g27 = record g25 { stage = update g25.stage 0 Open }

pub r27 : Rule square_setup unclaimed 2 v27 g27
r27 = unclaims square_setup published 2 v26 g25 r26 three not_less 0 2 (Living 0) (inl refl) only_zero not_living

abbrev pub v28 : Views
v28 = record v27 { work = update v27.work 0 idle; ruling = record v27.ruling { phase = Resting; finished = v27.ruling.finished + 1; early = v27.ruling.readers; history = v27.ruling.history ++ both ∷ []; left = (unclaimed.round, unclaimed.taken) ∷ v27.ruling.left; retired = []; kept = ((v27.work 0).retired ++ v27.ruling.retired) ++ v27.ruling.kept; seen = 0; quiet = false } }

abbrev pub g28 : Ghost
g28 = record g27 { who = update g27.who (unclaimed.round + 1 + 1) (g27.who (unclaimed.round + 1)) }

pub r28 : Rule square_setup finished1 2 v28 g28
r28 = advances square_setup unclaimed 2 v27 g27 r27 both both_stay (λ i h _. h) refl refl (λ b h. absurd h)
