-- The run that bisects the patch of the square twice: round 3, and the cuts.
use Rattle.std.proofs.Common.{true, false, [], ◌∷◌, refl, inl, inr, arith}
use Rattle.table_words.specs.Claims.{Half, Whole, Living}
use Rattle.table_words.specs.Places.{member_of, child_place}
use Rattle.table_words.specs.Views.{Views, Worker}
use Rattle.table_words.specs.Words.{node}
use Rattle.table_steps.specs.WalkSteps.{WorkFinds, WorkPasses, LoadName}
use Rattle.table_steps.specs.PinSteps.{ReadPasses}
use Rattle.table_steps.specs.SweepSteps.{CutHistory}
use Rattle.table_steps.specs.States.{state}
use Rattle.table_steps.specs.Steps.{Step, ByClaimStep, ByDrawStep, ByFillHistory, ByFillName, ByFillDied, ByFillChild, ByLinkFirst, ByLinkSecond, ByPublishStep, ByWorkTop, ByWorkEnds, ByWorkGoes, ByWorkFinds, ByWorkPasses, ByLoadHead, ByLoadHistory, ByLoadDied, ByLoadName, ByReadEnds, ByReadGoes, ByReadPasses, ByNoteDrained, ByLoadCursor, ByNotePlaces, BySplitStep, ByJoinWorker, ByBeginStep, ByPlanStep, ByCloseStep, ByAdvanceStep, ByUnclaimStep, ByCutHistory}
use Rattle.table_runs.specs.PatchWords.{name0, name1}
use Rattle.table_runs.specs.SquareTwice.{pair_setup, pinned, claimed_again, drawn_again, history2, history3, undead_again, named2, named3, child4, child5, child6, child7, linked2, linked3, published_again, unclaimed_again, finished3, cut0, cut1}
use Rattle.table_runs.proofs.SquareLists.{both, first_plan, none_listed, both_stay}
use Rattle.table_runs.proofs.SquareMoves.{begun, planned, closed, advanced, worker_made, joined, cursor_seen, placed_at, cleared, claims_at, draws_for, comes_to, unclaims, owned_head, owned_history, owned_died, owned_name, found_at, finds_absent, goes_to, passes_by, finds_known, knows, reads_to, reads_by, reads_absent}
use Rattle.table_runs.proofs.SquareNotes.{lt01, lt02, lt12, lt24, le22, ne, en, not_less, three, lt03, both_drained, no_half}
use Rattle.table_runs.proofs.SquarePair.{pair_first, lt23, kids_again, past_again, old_again, bisects_first, first_known, again_living, again_not, only_one}
use Rattle.table_runs.proofs.SquareTwice2.{u69}

-- round 3: the patch is bisected again, by block 1, while block 0 is behind it; walks pass block 1 by
abbrev pub u70 : Views
u70 = cursor_seen 0 u69

pub s70 : Step pair_setup (state pinned 5 u69) (state pinned 5 u70)
s70 = ByLoadCursor (no_half, refl)

abbrev pub u71 : Views
u71 = begun first_plan u70

pub s71 : Step pair_setup (state pinned 5 u70) (state pinned 5 u71)
s71 = ByBeginStep (first_plan, [], refl, pair_first, lt24, refl, refl, refl)

abbrev pub u72 : Views
u72 = worker_made 5 1 u71

pub s72 : Step pair_setup (state pinned 5 u71) (state pinned 6 u72)
s72 = BySplitStep (Worker, 1, 1, inl (refl, inl refl, refl, refl), 1, false, inr (inr (lt01, refl, refl)), [], (λ k h. absurd h), refl)

abbrev pub u73 : Views
u73 = worker_made 6 2 u72

pub s73 : Step pair_setup (state pinned 6 u72) (state pinned 7 u73)
s73 = BySplitStep (Worker, 2, 1, inl (refl, inl refl, refl, refl), 2, false, inr (inr (lt02, refl, refl)), [], (λ k h. absurd h), refl)

abbrev pub u74 : Views
u74 = found_at 5 0 name0 u73

pub s74 : Step pair_setup (state pinned 7 u73) (state pinned 7 u74)
s74 = ByWorkTop (5, refl, refl, 0, lt02, refl)

abbrev pub u75 : Views
u75 = found_at 5 1 name1 u74

pub s75 : Step pair_setup (state pinned 7 u74) (state pinned 7 u75)
s75 = ByWorkTop (5, refl, refl, 1, lt12, refl)

abbrev pub u76 : Views
u76 = finds_absent 5 name0 u75

pub s76 : Step pair_setup (state pinned 7 u75) (state pinned 7 u76)
s76 = ByWorkEnds (5, refl, 0, name0, node 1 2, inl (inl (inr (inl refl)), refl), inr (lt02, lt23), refl)

abbrev pub u77 : Views
u77 = finds_absent 5 name1 u76

pub s77 : Step pair_setup (state pinned 7 u76) (state pinned 7 u77)
s77 = ByWorkEnds (5, refl, 1, name1, node 1 2, inl (inl (inl refl), refl), inr (lt02, lt23), refl)

abbrev pub u78 : Views
u78 = claims_at 5 0 2 u77

pub s78 : Step pair_setup (state pinned 7 u77) (state claimed_again 7 u78)
s78 = ByClaimStep (5, 0, 2, name0, refl, refl, refl, inl (inr (inl refl)), inl refl, inr (inl refl), inr (1, 536870912, refl, refl, inl refl), refl)

abbrev pub u79 : Views
u79 = draws_for 5 0 0 1 u78

pub s79 : Step pair_setup (state claimed_again 7 u78) (state drawn_again 7 u79)
s79 = ByDrawStep (5, 0, 2, inl refl, refl, lt01, refl)

abbrev pub u80 : Views
u80 = owned_head 5 0 (node 1 2) u79

pub s80 : Step pair_setup (state drawn_again 7 u79) (state drawn_again 7 u80)
s80 = ByLoadHead (5, 0, refl)

abbrev pub u81 : Views
u81 = owned_head 5 1 (node 1 2) u80

pub s81 : Step pair_setup (state drawn_again 7 u80) (state drawn_again 7 u81)
s81 = ByLoadHead (5, 1, refl)

abbrev pub u82 : Views
u82 = owned_history 5 (member_of 1 false) (node 1 2) u81

pub s82 : Step pair_setup (state drawn_again 7 u81) (state history2 7 u82)
s82 = ByFillHistory (5, 0, 2, 1, inl refl, refl, false, node 1 2, refl)

abbrev pub u83 : Views
u83 = owned_history 5 (member_of 1 true) (node 1 2) u82

pub s83 : Step pair_setup (state history2 7 u82) (state history3 7 u83)
s83 = ByFillHistory (5, 0, 2, 1, inl refl, refl, true, node 1 2, refl)

abbrev pub u84 : Views
u84 = owned_died 5 1 0 u83

pub s84 : Step pair_setup (state history3 7 u83) (state undead_again 7 u84)
s84 = ByFillDied (5, 0, 2, 1, inl refl, refl, 0, refl)

abbrev pub u85 : Views
u85 = owned_name 5 (member_of 1 false) name0 u84

pub s85 : Step pair_setup (state undead_again 7 u84) (state named2 7 u85)
s85 = ByFillName (5, 0, 2, 1, inl refl, refl, false, name0, refl)

abbrev pub u86 : Views
u86 = owned_name 5 (member_of 1 true) name1 u85

pub s86 : Step pair_setup (state named2 7 u85) (state named3 7 u86)
s86 = ByFillName (5, 0, 2, 1, inl refl, refl, true, name1, refl)

abbrev pub u87 : Views
u87 = owned_head 5 (child_place 2 1 false false) (node 0 0) u86

pub s87 : Step pair_setup (state named3 7 u86) (state child4 7 u87)
s87 = ByFillChild (5, 0, 2, 1, inl refl, refl, false, false, node 0 0, refl)

abbrev pub u88 : Views
u88 = owned_head 5 (child_place 2 1 false true) (node 0 0) u87

pub s88 : Step pair_setup (state child4 7 u87) (state child5 7 u88)
s88 = ByFillChild (5, 0, 2, 1, inl refl, refl, false, true, node 0 0, refl)

abbrev pub u89 : Views
u89 = owned_head 5 (child_place 2 1 true false) (node 0 0) u88

pub s89 : Step pair_setup (state child5 7 u88) (state child6 7 u89)
s89 = ByFillChild (5, 0, 2, 1, inl refl, refl, true, false, node 0 0, refl)

abbrev pub u90 : Views
u90 = owned_head 5 (child_place 2 1 true true) (node 0 0) u89

pub s90 : Step pair_setup (state child6 7 u89) (state child7 7 u90)
s90 = ByFillChild (5, 0, 2, 1, inl refl, refl, true, true, node 0 0, refl)

abbrev pub u91 : Views
u91 = comes_to 5 0 (Half 1) u90

pub s91 : Step pair_setup (state child7 7 u90) (state linked2 7 u91)
s91 = ByLinkFirst (5, 0, 2, 1, name0, inl refl, refl, inl (refl, refl), inr (en 3 2 (lt23), inl (refl, refl)), inl (refl, refl), refl, kids_again ((1, node 1 2) ∷ (0, node 1 2) ∷ []), old_again, inr (inl refl), inr (1, 536870912, refl, refl, inl refl), Half 1, inl refl, refl)

abbrev pub u92 : Views
u92 = comes_to 5 0 (Whole 1) u91

pub s92 : Step pair_setup (state linked2 7 u91) (state linked3 7 u92)
s92 = ByLinkSecond (5, 0, 1, 1, node 1 2, inl refl, refl, past_again ((1, node 1 2) ∷ (0, node 1 2) ∷ []) 1 (node 1 2) lt12 (inl (refl, refl)), inl (refl, refl), refl)

abbrev pub u93 : Views
u93 = owned_name 6 (member_of 1 false) name0 u92

pub k93 : LoadName pair_setup linked3 7 u92 (state linked3 7 u93)
k93 = (6, member_of 1 false, refl)

pub s93 : Step pair_setup (state linked3 7 u92) (state linked3 7 u93)
s93 = ByLoadName k93

abbrev pub u94 : Views
u94 = goes_to 6 0 name0 1 false u93

pub s94 : Step pair_setup (state linked3 7 u93) (state linked3 7 u94)
s94 = ByWorkGoes (6, refl, 0, name0, 1, node 2 0, inl (inr (inr (lt02, refl)), refl), refl, inl refl, false, refl, refl)

abbrev pub u95 : Views
u95 = passes_by 6 0 name0 1 false u94

pub k95 : WorkPasses pair_setup linked3 7 u94 (state linked3 7 u95)
k95 = (6, refl, 0, name0, 1, false, refl, inl refl, _, inl refl, refl)

pub s95 : Step pair_setup (state linked3 7 u94) (state linked3 7 u95)
s95 = ByWorkPasses k95

abbrev pub u96 : Views
u96 = finds_absent 6 name0 u95

pub s96 : Step pair_setup (state linked3 7 u95) (state linked3 7 u96)
s96 = ByWorkEnds (6, refl, 0, name0, node 1 2, inr (1, false, refl, refl), inr (lt02, lt23), refl)

abbrev pub u97 : Views
u97 = knows 5 0 (Living 1) (name0 ∷ []) u96

pub s97 : Step pair_setup (state linked3 7 u96) (state published_again 7 u97)
s97 = ByPublishStep (5, 0, 2, 1, inl refl, refl, name0 ∷ [], bisects_first, refl)

abbrev pub u98 : Views
u98 = goes_to 6 0 name0 1 false u97

pub s98 : Step pair_setup (state published_again 7 u97) (state published_again 7 u98)
s98 = ByWorkGoes (6, refl, 0, name0, 1, node 2 0, inl (inr (inr (lt02, refl)), refl), refl, inl refl, false, refl, refl)

abbrev pub u99 : Views
u99 = finds_known pair_setup 6 name0 1 false u98

pub k99 : WorkFinds pair_setup published_again 7 u98 (state published_again 7 u99)
k99 = (6, refl, refl, 0, name0, 1, false, refl, lt03, refl)

pub s99 : Step pair_setup (state published_again 7 u98) (state published_again 7 u99)
s99 = ByWorkFinds k99

abbrev pub u100 : Views
u100 = reads_to 4 0 name0 1 false u99

pub s100 : Step pair_setup (state published_again 7 u99) (state published_again 7 u100)
s100 = ByReadGoes (4, 2, refl, refl, 0, name0, 1, node 2 0, inl (inr (lt02, refl), refl), refl, inl refl, false, refl, refl)

abbrev pub u101 : Views
u101 = reads_by 4 0 name0 1 false u100

pub k101 : ReadPasses pair_setup published_again 7 u100 (state published_again 7 u101)
k101 = (4, 2, refl, refl, 0, name0, 1, false, refl, inr lt23, refl)

pub s101 : Step pair_setup (state published_again 7 u100) (state published_again 7 u101)
s101 = ByReadPasses k101

abbrev pub u102 : Views
u102 = reads_absent 4 2 name0 u101

pub s102 : Step pair_setup (state published_again 7 u101) (state published_again 7 u102)
s102 = ByReadEnds (4, 2, refl, refl, 0, name0, node 1 2, inr (1, false, refl, refl), inr (lt02, le22), refl)

abbrev pub u103 : Views
u103 = joined 5 1 u102

pub s103 : Step pair_setup (state published_again 7 u102) (state published_again 7 u103)
s103 = ByJoinWorker (5, en 5 0 (omega arith), refl, 1, refl, refl)

abbrev pub u104 : Views
u104 = joined 6 0 u103

pub s104 : Step pair_setup (state published_again 7 u103) (state published_again 7 u104)
s104 = ByJoinWorker (6, en 6 0 (omega arith), refl, 0, refl, refl)

abbrev pub u105 : Views
u105 = planned [] u104

pub s105 : Step pair_setup (state published_again 7 u104) (state published_again 7 u105)
s105 = ByPlanStep ([], first_known, refl, refl, again_living, refl)

abbrev pub u106 : Views
u106 = closed u105

pub s106 : Step pair_setup (state published_again 7 u105) (state published_again 7 u106)
s106 = ByCloseStep (none_listed [], refl, refl, refl)

abbrev pub u107 : Views
u107 = placed_at 1 0 2 u106

pub s107 : Step pair_setup (state published_again 7 u106) (state published_again 7 u107)
s107 = ByNotePlaces (1, 0, 2, inl refl, refl)

abbrev pub u108 : Views
u108 = unclaims 0 2 (Living 1) u107

pub s108 : Step pair_setup (state published_again 7 u107) (state unclaimed_again 7 u108)
s108 = ByUnclaimStep (three, not_less, 0, 2, Living 1, inl refl, only_one, again_not, refl)

abbrev pub u109 : Views
u109 = advanced both 2 1 u108

pub s109 : Step pair_setup (state unclaimed_again 7 u108) (state finished3 7 u109)
s109 = ByAdvanceStep (both, both_stay, (λ i h _. h), refl, refl, (λ b h. absurd h), refl)

-- block 0 is cut out of the chains behind block 1, whose HISTORY words then name nothing
abbrev pub u110 : Views
u110 = cleared 1 u109

pub s110 : Step pair_setup (state finished3 7 u109) (state finished3 7 u110)
s110 = ByNoteDrained (1, 0, inr (inl refl), refl, refl)

abbrev pub u111 : Views
u111 = cleared 0 u110

pub s111 : Step pair_setup (state finished3 7 u110) (state finished3 7 u111)
s111 = ByNoteDrained (0, 0, inr (inr (inl refl)), refl, refl)

abbrev pub u112 : Views
u112 = owned_history 0 (member_of 0 false) (node 0 0) u111

pub s112 : Step pair_setup (state finished3 7 u111) (state finished3 7 u112)
s112 = ByLoadHistory (0, member_of 0 false, refl)

abbrev pub u113 : Views
u113 = owned_history 0 (member_of 0 true) (node 0 0) u112

pub s113 : Step pair_setup (state finished3 7 u112) (state finished3 7 u113)
s113 = ByLoadHistory (0, member_of 0 true, refl)

abbrev pub u114 : Views
u114 = owned_history 0 (member_of 1 false) (node 1 2) u113

pub s114 : Step pair_setup (state finished3 7 u113) (state finished3 7 u114)
s114 = ByLoadHistory (0, member_of 1 false, refl)

abbrev pub u115 : Views
u115 = owned_history 0 (member_of 1 true) (node 1 2) u114

pub s115 : Step pair_setup (state finished3 7 u114) (state finished3 7 u115)
s115 = ByLoadHistory (0, member_of 1 true, refl)

abbrev pub u116 : Views
u116 = owned_died 0 0 2 u115

pub s116 : Step pair_setup (state finished3 7 u115) (state finished3 7 u116)
s116 = ByLoadDied (0, 0, refl)

abbrev pub u117 : Views
u117 = owned_history 0 (member_of 1 false) (node 0 0) u116

pub k117 : CutHistory pair_setup finished3 7 u116 (state cut0 7 u117)
k117 = (refl, 1, 0, 2, 0, 0, 2, 0, 2, false, false, node 0 0, inr (en 3 2 (omega arith), inl (refl, refl)), inl (refl, refl), inr (en 3 0 (omega arith), inr (en 2 0 (omega arith), inr (en 1 0 (omega arith), inl (refl, refl)))), lt02, both_drained, inl refl, refl, inr (inr (inl refl)), (λ h. h), refl, refl)

pub s117 : Step pair_setup (state finished3 7 u116) (state cut0 7 u117)
s117 = ByCutHistory k117

abbrev pub u118 : Views
u118 = owned_history 0 (member_of 1 true) (node 0 0) u117

pub s118 : Step pair_setup (state cut0 7 u117) (state cut1 7 u118)
s118 = ByCutHistory (refl, 1, 0, 2, 1, 0, 2, 0, 2, true, true, node 0 0, inr (ne 2 3 (omega arith), inl (refl, refl)), inl (refl, refl), inr (en 2 1 (omega arith), inr (en 3 1 (omega arith), inr (en 2 1 (omega arith), inl (refl, refl)))), lt02, both_drained, inl refl, refl, inr (inr (inl refl)), (λ h. h), refl, refl)
