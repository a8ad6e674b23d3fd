-- The square's second run: worker 0 publishes the patch, and the round is refused and rolled back.
use Rattle.std.proofs.Common.{List, arith, ◌++◌, ℕ, ◌+◌, true, false, [], ◌∷◌, refl, ap, inl, inr, ⊎_elim}
use Rattle.table_words.specs.Claims.{Claimed, Drawn, Half, Whole, Living, claim}
use Rattle.table_words.specs.Places.{member_of, child_place}
use Rattle.table_words.specs.Words.{node}
use Rattle.table_words.specs.Claims.{moved_on, ended}
use Rattle.table_state.specs.Fresh.{fresh_words, fresh_views, idle, blank}
use Rattle.table_runs.specs.PatchWords.{name0, name1}
use Rattle.table_runs.specs.SquareRun.{SquareRefused, unpublished, unlinked1, unlinked0, buried, square_setup, claimed, drawn, history0, history1, undead, named0, named1, child0, child1, child2, child3, linked0, linked1, published}
use Rattle.table_runs.proofs.SquareLists.{first_plan, first_aim}
use Rattle.table_runs.proofs.SquareNotes.{lt04, en, kids_noted, lt01, lt02, lt12, old_words, past_four}
use Rattle.table_words.specs.Functions.{update}
use Rattle.table_words.specs.Views.{no_plan, Views, Still, owns_nothing, unread, Resting, FirstHalf, RollingBack, Vacant, Worker}
use Rattle.table_steps.specs.OwnerSteps.{LoadReleased, NoteQuiet, RefuseStep, RestoreStep}
use Rattle.table_steps.specs.SweepSteps.{UnbearStep, UnlinkSecond, UnlinkFirst, BuryStep}
use Rattle.table_steps.specs.States.{State, state}
use Rattle.table_steps.specs.Steps.{Run, Step, ByBeginStep, ByBuryStep, ByClaimStep, ByDrawStep, ByFillChild, ByFillDied, ByFillHistory, ByFillName, ByJoinWorker, ByLinkFirst, ByLinkSecond, ByLoadHead, ByLoadHistory, ByLoadReleased, ByNoteQuiet, ByPublishStep, ByRefuseStep, ByRestoreStep, BySplitStep, ByUnbearStep, ByUnlinkFirst, ByUnlinkSecond, ByWorkEnds, ByWorkTop}

abbrev pub u0 : Views
u0 = fresh_views 1

abbrev pub u1 : Views
u1 = record u0 { work = update u0.work 0 idle; ruling = record u0.ruling { phase = FirstHalf; cursor = 0; plan = first_plan } }

s1 : Step square_setup (state (fresh_words 1) 1 u0) (state (fresh_words 1) 1 u1)
s1 = ByBeginStep (first_plan, [], refl, first_aim, lt04, refl, refl, refl)

abbrev pub u2 : Views
u2 = record u1 { kind = update u1.kind 1 Worker; claims = update u1.claims 1 []; work = update u1.work 1 (record idle { half = u1.ruling.phase; round = u1.ruling.finished + 1; number = 0; plan = u1.ruling.plan }); owned = update (update u1.owned 0 owns_nothing) 1 owns_nothing; read = update u1.read 1 (record (blank []) { told = u1.ruling.history; seen = u1.ruling.finished; made = u1.ruling.finished }); ruling = record u1.ruling { workers = 1; readers = 0; lone = true } }

s2 : Step square_setup (state (fresh_words 1) 1 u1) (state (fresh_words 1) 2 u2)
s2 = BySplitStep (Worker, 1, 0, (inl (refl, inl refl, refl, refl)), 0, true, (inr (inl (refl, refl, (λ x m p h. absurd h), refl))), [], (λ k h. absurd h), refl)

abbrev pub u3 : Views
u3 = record u2 { work = update u2.work 1 (record (u2.work 1) { went = (u2.work 1).went; walk = (u2.work 1).walk; found = (0, square_setup.top 0) ∷ (u2.work 1).found; known = (u2.work 1).known; absent = (u2.work 1).absent; stood = (u2.work 1).stood; had = (u2.work 1).had }) }

s3 : Step square_setup (state (fresh_words 1) 2 u2) (state (fresh_words 1) 2 u3)
s3 = ByWorkTop (1, refl, refl, 0, lt02, refl)

abbrev pub u4 : Views
u4 = record u3 { work = update u3.work 1 (record (u3.work 1) { went = (u3.work 1).went; walk = (u3.work 1).walk; found = (1, square_setup.top 1) ∷ (u3.work 1).found; known = (u3.work 1).known; absent = (u3.work 1).absent; stood = (u3.work 1).stood; had = (u3.work 1).had }) }

s4 : Step square_setup (state (fresh_words 1) 2 u3) (state (fresh_words 1) 2 u4)
s4 = ByWorkTop (1, refl, refl, 1, lt12, refl)

abbrev pub u5 : Views
u5 = record u4 { work = update u4.work 1 (record (u4.work 1) { went = (u4.work 1).went; walk = Still; found = (u4.work 1).found; known = (u4.work 1).known; absent = name0 ∷ (u4.work 1).absent; stood = (u4.work 1).stood; had = (u4.work 1).had }) }

s5 : Step square_setup (state (fresh_words 1) 2 u4) (state (fresh_words 1) 2 u5)
s5 = ByWorkEnds (1, refl, 0, name0, (node 0 0), (inl ((inl (inr (inl refl))), refl)), (inl refl), refl)

abbrev pub u6 : Views
u6 = record u5 { work = update u5.work 1 (record (u5.work 1) { went = (u5.work 1).went; walk = Still; found = (u5.work 1).found; known = (u5.work 1).known; absent = name1 ∷ (u5.work 1).absent; stood = (u5.work 1).stood; had = (u5.work 1).had }) }

s6 : Step square_setup (state (fresh_words 1) 2 u5) (state (fresh_words 1) 2 u6)
s6 = ByWorkEnds (1, refl, 1, name1, (node 0 0), (inl ((inl (inl refl)), refl)), (inl refl), refl)

abbrev pub u7 : Views
u7 = record u6 { claims = update u6.claims 1 (claim 0 2 Claimed ∷ u6.claims 1); owned = update u6.owned 1 owns_nothing }

s7 : Step square_setup (state (fresh_words 1) 2 u6) (state claimed 2 u7)
s7 = ByClaimStep (1, 0, 2, name0, refl, refl, refl, inl (inr (inl refl)), (inl refl), (inr (inl refl)), (inr (1, 536870912, refl, refl, inl refl)), refl)

abbrev pub u8 : Views
u8 = record u7 { claims = update u7.claims 1 (moved_on (u7.claims 1) 0 (Drawn (claimed.row claimed.cursor))); work = update u7.work 1 (record (u7.work 1) { drawn = (claimed.cursor, claimed.row claimed.cursor + 1) ∷ (u7.work 1).drawn }); owned = update u7.owned 1 owns_nothing }

s8 : Step square_setup (state claimed 2 u7) (state drawn 2 u8)
s8 = ByDrawStep (1, 0, 2, (inl refl), refl, lt01, refl)

abbrev pub u9 : Views
u9 = record u8 { owned = update u8.owned 1 (record (u8.owned 1) { head = (0, drawn.head 0) ∷ (u8.owned 1).head }) }

s9 : Step square_setup (state drawn 2 u8) (state drawn 2 u9)
s9 = ByLoadHead (1, 0, refl)

abbrev pub u10 : Views
u10 = record u9 { owned = update u9.owned 1 (record (u9.owned 1) { head = (1, drawn.head 1) ∷ (u9.owned 1).head }) }

s10 : Step square_setup (state drawn 2 u9) (state drawn 2 u10)
s10 = ByLoadHead (1, 1, refl)

abbrev pub u11 : Views
u11 = record u10 { owned = update u10.owned 1 (record (u10.owned 1) { history = (member_of 0 false, node 0 0) ∷ (u10.owned 1).history }) }

s11 : Step square_setup (state drawn 2 u10) (state history0 2 u11)
s11 = ByFillHistory (1, 0, 2, 0, (inl refl), refl, false, (node 0 0), refl)

abbrev pub u12 : Views
u12 = record u11 { owned = update u11.owned 1 (record (u11.owned 1) { history = (member_of 0 true, node 0 0) ∷ (u11.owned 1).history }) }

s12 : Step square_setup (state history0 2 u11) (state history1 2 u12)
s12 = ByFillHistory (1, 0, 2, 0, (inl refl), refl, true, (node 0 0), refl)

abbrev pub u13 : Views
u13 = record u12 { owned = update u12.owned 1 (record (u12.owned 1) { died = (0, 0) ∷ (u12.owned 1).died }) }

s13 : Step square_setup (state history1 2 u12) (state undead 2 u13)
s13 = ByFillDied (1, 0, 2, 0, (inl refl), refl, 0, refl)

abbrev pub u14 : Views
u14 = record u13 { owned = update u13.owned 1 (record (u13.owned 1) { name = (member_of 0 false, name0) ∷ (u13.owned 1).name }) }

s14 : Step square_setup (state undead 2 u13) (state named0 2 u14)
s14 = ByFillName (1, 0, 2, 0, (inl refl), refl, false, name0, refl)

abbrev pub u15 : Views
u15 = record u14 { owned = update u14.owned 1 (record (u14.owned 1) { name = (member_of 0 true, name1) ∷ (u14.owned 1).name }) }

s15 : Step square_setup (state named0 2 u14) (state named1 2 u15)
s15 = ByFillName (1, 0, 2, 0, (inl refl), refl, true, name1, refl)

abbrev pub u16 : Views
u16 = record u15 { owned = update u15.owned 1 (record (u15.owned 1) { head = (child_place 2 0 false false, node 0 0) ∷ (u15.owned 1).head }) }

s16 : Step square_setup (state named1 2 u15) (state child0 2 u16)
s16 = ByFillChild (1, 0, 2, 0, (inl refl), refl, false, false, (node 0 0), refl)

abbrev pub u17 : Views
u17 = record u16 { owned = update u16.owned 1 (record (u16.owned 1) { head = (child_place 2 0 false true, node 0 0) ∷ (u16.owned 1).head }) }

s17 : Step square_setup (state child0 2 u16) (state child1 2 u17)
s17 = ByFillChild (1, 0, 2, 0, (inl refl), refl, false, true, (node 0 0), refl)

abbrev pub u18 : Views
u18 = record u17 { owned = update u17.owned 1 (record (u17.owned 1) { head = (child_place 2 0 true false, node 0 0) ∷ (u17.owned 1).head }) }

s18 : Step square_setup (state child1 2 u17) (state child2 2 u18)
s18 = ByFillChild (1, 0, 2, 0, (inl refl), refl, true, false, (node 0 0), refl)

abbrev pub u19 : Views
u19 = record u18 { owned = update u18.owned 1 (record (u18.owned 1) { head = (child_place 2 0 true true, node 0 0) ∷ (u18.owned 1).head }) }

s19 : Step square_setup (state child2 2 u18) (state child3 2 u19)
s19 = ByFillChild (1, 0, 2, 0, (inl refl), refl, true, true, (node 0 0), refl)

abbrev pub u20 : Views
u20 = record u19 { claims = update u19.claims 1 (moved_on (u19.claims 1) 0 (Half 0)) }

s20 : Step square_setup (state child3 2 u19) (state linked0 2 u20)
s20 = ByLinkFirst (1, 0, 2, 0, name0, (inl refl), refl, (inl (refl, refl)), (inr (en 1 0 lt01, inl (refl, refl))), (inl (refl, refl)), refl, (kids_noted ((1, node 0 0) ∷ (0, node 0 0) ∷ [])), old_words, (inr (inl refl)), (inr (1, 536870912, refl, refl, inl refl)), (Half 0), (inl refl), refl)

abbrev pub u21 : Views
u21 = record u20 { claims = update u20.claims 1 (moved_on (u20.claims 1) 0 (Whole 0)) }

s21 : Step square_setup (state linked0 2 u20) (state linked1 2 u21)
s21 = ByLinkSecond (1, 0, 1, 0, (node 0 0), (inl refl), refl, (past_four ((1, node 0 0) ∷ (0, node 0 0) ∷ []) 1 (node 0 0) lt12 (inl (refl, refl))), (inl (refl, refl)), refl)

abbrev pub u22 : Views
u22 = record u21 { claims = update u21.claims 1 (moved_on (u21.claims 1) 0 (Living 0)); work = update u21.work 1 (record (u21.work 1) { known = name0 ∷ [] }) }

s22 : Step square_setup (state linked1 2 u21) (state published 2 u22)
s22 = ByPublishStep (1, 0, 2, 0, (inl refl), refl, (name0 ∷ []), (λ k h. ⊎_elim (λ e. inr (0, inl refl, inr (inl (ap (λ (i : ℕ). (0, i)) e)))) (λ f. absurd f) h), refl)

abbrev pub u23 : Views
u23 = record u22 { kind = update u22.kind 1 Vacant; claims = update (update u22.claims 0 (u22.claims 0 ++ u22.claims 1)) 1 []; work = update (update u22.work 0 record { half = Resting; round = 0; number = 0; plan = no_plan; drawn = (u22.work 0).drawn ++ (u22.work 1).drawn; found = (u22.work 0).found ++ (u22.work 1).found; known = (u22.work 0).known ++ (u22.work 1).known; open_ = (u22.work 0).open_ ++ (u22.work 1).open_; given = (u22.work 0).given ++ (u22.work 1).given; absent = (u22.work 0).absent ++ (u22.work 1).absent; stood = (u22.work 0).stood ++ (u22.work 1).stood; had = (u22.work 0).had ++ (u22.work 1).had; grown = (u22.work 0).grown ++ (u22.work 1).grown; retired = (u22.work 0).retired ++ (u22.work 1).retired; went = []; walk = Still }) 1 idle; owned = update (update u22.owned 0 owns_nothing) 1 owns_nothing; read = update u22.read 1 unread; ruling = record u22.ruling { workers = 0; lone = false } }

s23 : Step square_setup (state published 2 u22) (state published 2 u23)
s23 = ByJoinWorker (1, (en 1 0 lt01), refl, 0, refl, refl)

abbrev pub u24 : Views
u24 = record u23 { work = update u23.work 0 idle; ruling = record u23.ruling { phase = RollingBack } }

pub k24 : RefuseStep square_setup published 2 u23 (state published 2 u24)
k24 = (refl, refl, refl)

s24 : Step square_setup (state published 2 u23) (state published 2 u24)
s24 = ByRefuseStep k24

abbrev pub u25 : Views
u25 = record u24 { owned = update u24.owned 0 (record (u24.owned 0) { history = (0, published.history 0) ∷ (u24.owned 0).history }) }

s25 : Step square_setup (state published 2 u24) (state published 2 u25)
s25 = ByLoadHistory (0, 0, refl)

abbrev pub u26 : Views
u26 = record u25 { owned = update u25.owned 0 (record (u25.owned 0) { history = (1, published.history 1) ∷ (u25.owned 0).history }) }

s26 : Step square_setup (state published 2 u25) (state published 2 u26)
s26 = ByLoadHistory (0, 1, refl)

abbrev pub u27 : Views
u27 = record u26 { claims = update u26.claims 0 (moved_on (u26.claims 0) 0 (Whole 0)); owned = update u26.owned 0 (record (u26.owned 0) { born = (0, 0) ∷ (u26.owned 0).born }) }

pub k27 : UnbearStep square_setup published 2 u26 (state unpublished 2 u27)
k27 = (refl, 0, 2, 0, inl refl, refl)

s27 : Step square_setup (state published 2 u26) (state unpublished 2 u27)
s27 = ByUnbearStep k27

abbrev pub u28 : Views
u28 = record u27 { claims = update u27.claims 0 (moved_on (u27.claims 0) 0 (Half 0)); owned = update u27.owned 0 (record (u27.owned 0) { head = (1, node 0 0) ∷ (u27.owned 0).head }) }

pub k28 : UnlinkSecond square_setup unpublished 2 u27 (state unlinked1 2 u28)
k28 = (refl, 0, 1, 0, node 0 0, inl refl, inl (refl, refl), refl)

s28 : Step square_setup (state unpublished 2 u27) (state unlinked1 2 u28)
s28 = ByUnlinkSecond k28

abbrev pub u29 : Views
u29 = record u28 { claims = update u28.claims 0 (ended (u28.claims 0) 0); owned = update u28.owned 0 (record (u28.owned 0) { head = (0, node 0 0) ∷ (u28.owned 0).head }); ruling = record u28.ruling { rolled_back = 0 ∷ u28.ruling.rolled_back; placed = (0, 0, 2) ∷ u28.ruling.placed; seen = 0; quiet = false } }

pub k29 : UnlinkFirst square_setup unlinked1 2 u28 (state unlinked0 2 u29)
k29 = (refl, 0, 2, 0, node 0 0, Half 0, inl refl, inl refl, inr (en 1 0 lt01, inl (refl, refl)), refl)

s29 : Step square_setup (state unlinked1 2 u28) (state unlinked0 2 u29)
s29 = ByUnlinkFirst k29

abbrev pub u30 : Views
u30 = record u29 { owned = update u29.owned 0 (record (u29.owned 0) { died = (0, 1) ∷ (u29.owned 0).died }) }

pub k30 : BuryStep square_setup unlinked0 2 u29 (state buried 2 u30)
k30 = (((λ e. absurd (cc)), λ e. absurd (cc)), 0, inl refl, refl)

s30 : Step square_setup (state unlinked0 2 u29) (state buried 2 u30)
s30 = ByBuryStep k30

abbrev pub u31 : Views
u31 = record u30 { work = update u30.work 0 idle; ruling = record u30.ruling { phase = Resting } }

pub k31 : RestoreStep square_setup buried 2 u30 (state buried 2 u31)
k31 = (refl, refl, refl)

s31 : Step square_setup (state buried 2 u30) (state buried 2 u31)
s31 = ByRestoreStep k31

abbrev pub u32 : Views
u32 = record u31 { ruling = record u31.ruling { seen = buried.released u31.ruling.finished + 1 } }

pub k32 : LoadReleased square_setup buried 2 u31 (state buried 2 u32)
k32 = refl

s32 : Step square_setup (state buried 2 u31) (state buried 2 u32)
s32 = ByLoadReleased k32

abbrev pub u33 : Views
u33 = record u32 { ruling = record u32.ruling { quiet = true } }

pub k33 : NoteQuiet square_setup buried 2 u32 (state buried 2 u33)
k33 = (refl, refl)

s33 : Step square_setup (state buried 2 u32) (state buried 2 u33)
s33 = ByNoteQuiet k33

abbrev pub run_states : List State
run_states = state (fresh_words 1) 1 u1 ∷ state (fresh_words 1) 2 u2 ∷ state (fresh_words 1) 2 u3 ∷ state (fresh_words 1) 2 u4 ∷ state (fresh_words 1) 2 u5 ∷ state (fresh_words 1) 2 u6 ∷ state claimed 2 u7 ∷ state drawn 2 u8 ∷ state drawn 2 u9 ∷ state drawn 2 u10 ∷ state history0 2 u11 ∷ state history1 2 u12 ∷ state undead 2 u13 ∷ state named0 2 u14 ∷ state named1 2 u15 ∷ state child0 2 u16 ∷ state child1 2 u17 ∷ state child2 2 u18 ∷ state child3 2 u19 ∷ state linked0 2 u20 ∷ state linked1 2 u21 ∷ state published 2 u22 ∷ state published 2 u23 ∷ state published 2 u24 ∷ state published 2 u25 ∷ state published 2 u26 ∷ state unpublished 2 u27 ∷ state unlinked1 2 u28 ∷ state unlinked0 2 u29 ∷ state buried 2 u30 ∷ state buried 2 u31 ∷ state buried 2 u32 ∷ state buried 2 u33 ∷ []

pub run : Run square_setup (state (fresh_words 1) 1 (fresh_views 1)) run_states
run = (s1, (s2, (s3, (s4, (s5, (s6, (s7, (s8, (s9, (s10, (s11, (s12, (s13, (s14, (s15, (s16, (s17, (s18, (s19, (s20, (s21, (s22, (s23, (s24, (s25, (s26, (s27, (s28, (s29, (s30, (s31, (s32, (s33, tt)))))))))))))))))))))))))))))))))

pub square_refused : SquareRefused
square_refused = (run_states, run, (refl, inr (refl, inr (refl, inr (refl, inr (refl, inr (refl, inr (refl, inl (refl, inl (refl, inr (refl, inr (refl, inl (refl, inl (refl, inl (refl, inl (refl, inl (refl, inl (refl, inl (refl, inl (refl, inl (refl, inl (refl, inl (refl, inl (refl, inr (refl, inr (refl, inr (refl, inr (refl, inl (refl, inl (refl, inl (refl, inl (refl, inr (refl, inr (refl, inr (refl, inl refl)))))))))))))))))))))))))))))))))))
