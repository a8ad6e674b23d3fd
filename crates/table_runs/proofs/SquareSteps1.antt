-- The square's run, round 1: each state comes by a step from the one before.
use Rattle.std.proofs.Common.{ℕ, true, false, [], ◌∷◌, refl, ap, inl, inr, ⊎_elim}
use Rattle.table_words.specs.Claims.{Half, Living}
use Rattle.table_words.specs.Words.{node}
use Rattle.table_state.specs.Fresh.{fresh_words}
use Rattle.table_runs.specs.PatchWords.{name0, name1}
use Rattle.table_runs.specs.SquareRun.{square_setup, claimed, drawn, history0, history1, undead, named0, named1, child0, child1, child2, child3, linked0, linked1, published, unclaimed, finished1}
use Rattle.table_runs.proofs.SquareLists.{both, first_plan, first_aim, none_listed, both_stay}
use Rattle.table_runs.proofs.SquareNotes.{lt04, en, kids_noted, living_claim, lt01, lt02, lt12, not_less, not_living, old_words, only_zero, past_four, three}
use Rattle.table_steps.specs.WorkSteps.{ClaimStep, DrawStep, FillHistory, FillName, FillDied, FillChild, LinkFirst, LinkSecond, PublishStep}
use Rattle.table_steps.specs.WalkSteps.{WorkTop, WorkEnds, LoadHead}
use Rattle.table_steps.specs.OwnerSteps.{NotePlaces, SplitStep, JoinWorker, BeginStep, PlanStep, CloseStep, AdvanceStep}
use Rattle.table_steps.specs.SweepSteps.{UnclaimStep}
use Rattle.table_steps.specs.States.{state}
use Rattle.table_steps.specs.Steps.{Step, ByAdvanceStep, ByBeginStep, ByClaimStep, ByCloseStep, ByDrawStep, ByFillChild, ByFillDied, ByFillHistory, ByFillName, ByJoinWorker, ByLinkFirst, ByLinkSecond, ByLoadHead, ByNotePlaces, ByPlanStep, ByPublishStep, BySplitStep, ByUnclaimStep, ByWorkEnds, ByWorkTop}
use Rattle.table_runs.proofs.SquareRound1.{v0, v1, v2, v3, v4, v5, v6, v7, v8, v9, v10, v11, v12, v13, v14, v15, v16, v17, v18, v19, v20, v21, v22, v23, v24, v25, v26, v27, v28}
use Rattle.table_words.specs.Views.{Worker}

pub k1 : BeginStep square_setup (fresh_words 1) 1 v0 (state (fresh_words 1) 1 v1)
k1 = (first_plan, [], refl, first_aim, lt04, refl, refl, refl)

pub s1 : Step square_setup (state (fresh_words 1) 1 v0) (state (fresh_words 1) 1 v1)
s1 = ByBeginStep k1

pub k2 : SplitStep square_setup (fresh_words 1) 1 v1 (state (fresh_words 1) 2 v2)
k2 = (Worker, 1, 0, (inl (refl, inl refl, refl, refl)), 1, false, (inr (inr (lt01, refl, refl))), [], (λ k h. absurd h), refl)

pub s2 : Step square_setup (state (fresh_words 1) 1 v1) (state (fresh_words 1) 2 v2)
s2 = BySplitStep k2

pub k3 : WorkTop square_setup (fresh_words 1) 2 v2 (state (fresh_words 1) 2 v3)
k3 = (1, refl, refl, 0, lt02, refl)

pub s3 : Step square_setup (state (fresh_words 1) 2 v2) (state (fresh_words 1) 2 v3)
s3 = ByWorkTop k3

pub s4 : Step square_setup (state (fresh_words 1) 2 v3) (state (fresh_words 1) 2 v4)
s4 = ByWorkTop (1, refl, refl, 1, lt12, refl)

pub k5 : WorkEnds square_setup (fresh_words 1) 2 v4 (state (fresh_words 1) 2 v5)
k5 = (1, refl, 0, name0, (node 0 0), (inl ((inl (inr (inl refl))), refl)), (inl refl), refl)

pub s5 : Step square_setup (state (fresh_words 1) 2 v4) (state (fresh_words 1) 2 v5)
s5 = ByWorkEnds k5

pub s6 : Step square_setup (state (fresh_words 1) 2 v5) (state (fresh_words 1) 2 v6)
s6 = ByWorkEnds (1, refl, 1, name1, (node 0 0), (inl ((inl (inl refl)), refl)), (inl refl), refl)

pub k7 : ClaimStep square_setup (fresh_words 1) 2 v6 (state claimed 2 v7)
k7 = (1, 0, 2, name0, refl, refl, refl, inl (inr (inl refl)), (inl refl), (inr (inl refl)), (inr (1, 536870912, refl, refl, inl refl)), refl)

pub s7 : Step square_setup (state (fresh_words 1) 2 v6) (state claimed 2 v7)
s7 = ByClaimStep k7

pub k8 : DrawStep square_setup claimed 2 v7 (state drawn 2 v8)
k8 = (1, 0, 2, (inl refl), refl, lt01, refl)

pub s8 : Step square_setup (state claimed 2 v7) (state drawn 2 v8)
s8 = ByDrawStep k8

pub k9 : LoadHead square_setup drawn 2 v8 (state drawn 2 v9)
k9 = (1, 0, refl)

pub s9 : Step square_setup (state drawn 2 v8) (state drawn 2 v9)
s9 = ByLoadHead k9

pub s10 : Step square_setup (state drawn 2 v9) (state drawn 2 v10)
s10 = ByLoadHead (1, 1, refl)

pub k11 : FillHistory square_setup drawn 2 v10 (state history0 2 v11)
k11 = (1, 0, 2, 0, (inl refl), refl, false, (node 0 0), refl)

pub s11 : Step square_setup (state drawn 2 v10) (state history0 2 v11)
s11 = ByFillHistory k11

pub s12 : Step square_setup (state history0 2 v11) (state history1 2 v12)
s12 = ByFillHistory (1, 0, 2, 0, (inl refl), refl, true, (node 0 0), refl)

pub k13 : FillDied square_setup history1 2 v12 (state undead 2 v13)
k13 = (1, 0, 2, 0, (inl refl), refl, 0, refl)

pub s13 : Step square_setup (state history1 2 v12) (state undead 2 v13)
s13 = ByFillDied k13

pub k14 : FillName square_setup undead 2 v13 (state named0 2 v14)
k14 = (1, 0, 2, 0, (inl refl), refl, false, name0, refl)

pub s14 : Step square_setup (state undead 2 v13) (state named0 2 v14)
s14 = ByFillName k14

pub s15 : Step square_setup (state named0 2 v14) (state named1 2 v15)
s15 = ByFillName (1, 0, 2, 0, (inl refl), refl, true, name1, refl)

pub k16 : FillChild square_setup named1 2 v15 (state child0 2 v16)
k16 = (1, 0, 2, 0, (inl refl), refl, false, false, (node 0 0), refl)

pub s16 : Step square_setup (state named1 2 v15) (state child0 2 v16)
s16 = ByFillChild k16

pub s17 : Step square_setup (state child0 2 v16) (state child1 2 v17)
s17 = ByFillChild (1, 0, 2, 0, (inl refl), refl, false, true, (node 0 0), refl)

pub s18 : Step square_setup (state child1 2 v17) (state child2 2 v18)
s18 = ByFillChild (1, 0, 2, 0, (inl refl), refl, true, false, (node 0 0), refl)

pub s19 : Step square_setup (state child2 2 v18) (state child3 2 v19)
s19 = ByFillChild (1, 0, 2, 0, (inl refl), refl, true, true, (node 0 0), refl)

pub k20 : LinkFirst square_setup child3 2 v19 (state linked0 2 v20)
k20 = (1, 0, 2, 0, name0, (inl refl), refl, (inl (refl, refl)), (inr (en 1 0 lt01, inl (refl, refl))), (inl (refl, refl)), refl, (kids_noted ((1, node 0 0) ∷ (0, node 0 0) ∷ [])), old_words, (inr (inl refl)), (inr (1, 536870912, refl, refl, inl refl)), (Half 0), (inl refl), refl)

pub s20 : Step square_setup (state child3 2 v19) (state linked0 2 v20)
s20 = ByLinkFirst k20

pub k21 : LinkSecond square_setup linked0 2 v20 (state linked1 2 v21)
k21 = (1, 0, 1, 0, (node 0 0), (inl refl), refl, (past_four ((1, node 0 0) ∷ (0, node 0 0) ∷ []) 1 (node 0 0) lt12 (inl (refl, refl))), (inl (refl, refl)), refl)

pub s21 : Step square_setup (state linked0 2 v20) (state linked1 2 v21)
s21 = ByLinkSecond k21

pub k22 : PublishStep square_setup linked1 2 v21 (state published 2 v22)
k22 = (1, 0, 2, 0, (inl refl), refl, (name0 ∷ []), (λ k h. ⊎_elim (λ e. inr (0, inl refl, inr (inl (ap (λ (i : ℕ). (0, i)) e)))) (λ f. absurd f) h), refl)

pub s22 : Step square_setup (state linked1 2 v21) (state published 2 v22)
s22 = ByPublishStep k22

pub k23 : JoinWorker square_setup published 2 v22 (state published 2 v23)
k23 = (1, (en 1 0 lt01), refl, 0, refl, refl)

pub s23 : Step square_setup (state published 2 v22) (state published 2 v23)
s23 = ByJoinWorker k23

pub k24 : PlanStep square_setup published 2 v23 (state published 2 v24)
k24 = ([], (λ i h. h), refl, refl, living_claim, refl)

pub s24 : Step square_setup (state published 2 v23) (state published 2 v24)
s24 = ByPlanStep k24

pub k25 : CloseStep square_setup published 2 v24 (state published 2 v25)
k25 = ((none_listed []), refl, refl, refl)

pub s25 : Step square_setup (state published 2 v24) (state published 2 v25)
s25 = ByCloseStep k25

pub k26 : NotePlaces square_setup published 2 v25 (state published 2 v26)
k26 = (0, 0, 2, (inl refl), refl)

pub s26 : Step square_setup (state published 2 v25) (state published 2 v26)
s26 = ByNotePlaces k26

pub k27 : UnclaimStep square_setup published 2 v26 (state unclaimed 2 v27)
k27 = (three, not_less, 0, 2, (Living 0), (inl refl), only_zero, not_living, refl)

pub s27 : Step square_setup (state published 2 v26) (state unclaimed 2 v27)
s27 = ByUnclaimStep k27

pub k28 : AdvanceStep square_setup unclaimed 2 v27 (state finished1 2 v28)
k28 = (both, both_stay, (λ i h _. h), refl, refl, (λ b h. absurd h), refl)

pub s28 : Step square_setup (state unclaimed 2 v27) (state finished1 2 v28)
s28 = ByAdvanceStep k28
