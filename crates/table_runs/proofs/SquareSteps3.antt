-- The square's run, round 3: each state comes by a step from the one before.
use Rattle.std.proofs.Common.{◌==◌, true, false, [], ◌∷◌, refl, sym, inl, inr, eqb-true}
use Rattle.table_words.specs.Words.{node}
use Rattle.table_runs.specs.PatchWords.{name0, name1}
use Rattle.table_runs.specs.SquareRun.{square_setup, finished2, unpinned, cut0, cut1, unborn, laid, opened, claimed_again, drawn_again}
use Rattle.table_runs.proofs.SquareLists.{first_plan, first_aim}
use Rattle.table_runs.proofs.SquareNotes.{both_drained, clean_places, en, hand_zero, kept_zero, le11, le22, lt01, lt02, lt12, lt24, ne, none_left, one_laid, one_row, same_below_one, no_half}
use Rattle.table_steps.specs.WalkSteps.{LoadHistory}
use Rattle.table_steps.specs.PinSteps.{UnpinStep}
use Rattle.table_steps.specs.OwnerSteps.{NoteDrained}
use Rattle.table_steps.specs.SweepSteps.{CutLink, FreeStep, ZeroStep, RowStep, OpenStep}
use Rattle.table_steps.specs.States.{state}
use Rattle.table_steps.specs.Steps.{Step, ByBeginStep, ByClaimStep, ByCutLink, ByDrawStep, ByFreeStep, ByLoadCursor, ByLoadHead, ByLoadHistory, ByNoteDrained, ByOpenStep, ByRowStep, BySplitStep, ByUnpinStep, ByWorkEnds, ByWorkTop, ByZeroStep}
use Rattle.table_runs.proofs.SquareRound2.{v58}
use Rattle.table_runs.proofs.SquareRound3.{v59, v60, v61, v62, v63, v64, v65, v66, v67, v68, v69, v70, v71, v72, v73, v74, v75, v76, v77, v78, v79, v80, v81, v82}
use Rattle.table_words.specs.Views.{Worker}

pub k59 : UnpinStep square_setup finished2 4 v58 (state unpinned 4 v59)
k59 = (2, 1, refl, refl, refl)

pub s59 : Step square_setup (state finished2 4 v58) (state unpinned 4 v59)
s59 = ByUnpinStep k59

pub k60 : NoteDrained square_setup unpinned 4 v59 (state unpinned 4 v60)
k60 = (1, 1, (inl refl), refl, refl)

pub s60 : Step square_setup (state unpinned 4 v59) (state unpinned 4 v60)
s60 = ByNoteDrained k60

pub s61 : Step square_setup (state unpinned 4 v60) (state unpinned 4 v61)
s61 = ByNoteDrained (0, 0, (inr (inl refl)), refl, refl)

pub k62 : LoadHistory square_setup unpinned 4 v61 (state unpinned 4 v62)
k62 = (0, 0, refl)

pub s62 : Step square_setup (state unpinned 4 v61) (state unpinned 4 v62)
s62 = ByLoadHistory k62

pub s63 : Step square_setup (state unpinned 4 v62) (state unpinned 4 v63)
s63 = ByLoadHistory (0, 1, refl)

pub k64 : CutLink square_setup unpinned 4 v63 (state cut0 4 v64)
k64 = (refl, 0, 0, 2, 0, 2, false, (node 0 0), (inr (en 1 0 lt01, inl (refl, refl))), (inl (refl, refl)), (inr (en 1 0 lt01, inl (refl, refl))), lt02, both_drained, (inl refl), (λ h. h), refl, refl)

pub s64 : Step square_setup (state unpinned 4 v63) (state cut0 4 v64)
s64 = ByCutLink k64

pub s65 : Step square_setup (state cut0 4 v64) (state cut1 4 v65)
s65 = ByCutLink (refl, 1, 0, 2, 0, 2, true, (node 0 0), (inr (ne 0 1 lt01, inl (refl, refl))), (inl (refl, refl)), (inl (refl, refl)), lt02, both_drained, (inl refl), (λ h. h), refl, refl)

pub s66 : Step square_setup (state cut1 4 v65) (state cut1 4 v66)
s66 = ByLoadHead (0, 2, refl)

pub s67 : Step square_setup (state cut1 4 v66) (state cut1 4 v67)
s67 = ByLoadHead (0, 3, refl)

pub s68 : Step square_setup (state cut1 4 v67) (state cut1 4 v68)
s68 = ByLoadHead (0, 4, refl)

pub s69 : Step square_setup (state cut1 4 v68) (state cut1 4 v69)
s69 = ByLoadCursor (no_half, refl)

pub k70 : FreeStep square_setup cut1 4 v69 (state cut1 4 v70)
k70 = (refl, (λ c. c == 0), (0 ∷ []), [], [], [], (λ c h. inr (2, 0, 2, inl (sym (eqb-true c 0 h), refl), lt02, le22, both_drained, inl (λ i. (eqb-true c 0 h i, 0, 2)), clean_places)), hand_zero, (λ c. ((λ h. absurd h), λ h. absurd h)), kept_zero, none_left, refl)

pub s70 : Step square_setup (state cut1 4 v69) (state cut1 4 v70)
s70 = ByFreeStep k70

pub k71 : ZeroStep square_setup cut1 4 v70 (state unborn 4 v71)
k71 = (refl, 0, (inl refl), refl)

pub s71 : Step square_setup (state cut1 4 v70) (state unborn 4 v71)
s71 = ByZeroStep k71

pub k72 : RowStep square_setup unborn 4 v71 (state laid 4 v72)
k72 = (refl, 0, 0, refl, (inl lt01), refl)

pub s72 : Step square_setup (state unborn 4 v71) (state laid 4 v72)
s72 = ByRowStep k72

pub k73 : OpenStep square_setup laid 4 v72 (state opened 4 v73)
k73 = (refl, 1, [], refl, refl, (λ _. le11), (one_row 1 0 []), (λ i j b l m. same_below_one i j l.0 m.0), (one_laid 1 0 []), refl)

pub s73 : Step square_setup (state laid 4 v72) (state opened 4 v73)
s73 = ByOpenStep k73

pub s74 : Step square_setup (state opened 4 v73) (state opened 4 v74)
s74 = ByLoadCursor (no_half, refl)

pub s75 : Step square_setup (state opened 4 v74) (state opened 4 v75)
s75 = ByBeginStep (first_plan, [], refl, first_aim, lt24, refl, refl, refl)

pub s76 : Step square_setup (state opened 4 v75) (state opened 5 v76)
s76 = BySplitStep (Worker, 1, 1, (inl (refl, inl refl, refl, refl)), 1, false, (inr (inr (lt01, refl, refl))), [], (λ k h. absurd h), refl)

pub s77 : Step square_setup (state opened 5 v76) (state opened 5 v77)
s77 = ByWorkTop (4, refl, refl, 0, lt02, refl)

pub s78 : Step square_setup (state opened 5 v77) (state opened 5 v78)
s78 = ByWorkTop (4, refl, refl, 1, lt12, refl)

pub s79 : Step square_setup (state opened 5 v78) (state opened 5 v79)
s79 = ByWorkEnds (4, refl, 0, name0, (node 0 0), (inl ((inl (inr (inl refl))), refl)), (inl refl), refl)

pub s80 : Step square_setup (state opened 5 v79) (state opened 5 v80)
s80 = ByWorkEnds (4, refl, 1, name1, (node 0 0), (inl ((inl (inl refl)), refl)), (inl refl), refl)

pub s81 : Step square_setup (state opened 5 v80) (state claimed_again 5 v81)
s81 = ByClaimStep (4, 0, 2, name0, refl, refl, refl, inl (inr (inl refl)), (inl refl), (inr (inl refl)), (inr (1, 536870912, refl, refl, inl refl)), refl)

pub s82 : Step square_setup (state claimed_again 5 v81) (state drawn_again 5 v82)
s82 = ByDrawStep (4, 0, 2, (inl refl), refl, lt01, refl)
