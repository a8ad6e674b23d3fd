-- The run that uses a row of the stock: the first half of round 3.
use Rattle.std.proofs.Common.{true, false, List, [], ◌∷◌, refl, inl, inr}
use Rattle.table_words.specs.Claims.{Half, Whole, Living}
use Rattle.table_words.specs.Places.{member_of, child_place}
use Rattle.table_words.specs.Views.{Views, Worker}
use Rattle.table_words.specs.Words.{node}
use Rattle.table_steps.specs.WorkSteps.{DrawStep}
use Rattle.table_steps.specs.States.{State, state}
use Rattle.table_steps.specs.Steps.{Run, Step, ByBeginStep, ByClaimStep, ByDrawStep, ByFillChild, ByFillDied, ByFillHistory, ByFillName, ByLinkFirst, ByLinkSecond, ByLoadHead, ByPublishStep, BySplitStep, ByWorkEnds, ByWorkFinds, ByWorkGoes, ByWorkTop}
use Rattle.table_runs.specs.PatchWords.{name0, name1}
use Rattle.table_runs.specs.SquareRun.{Along}
use Rattle.table_runs.specs.SquareTwice.{pair_setup}
use Rattle.table_runs.specs.ChildWords.{child_name, at_child}
use Rattle.table_runs.specs.PatchWords as root
use Rattle.table_runs.specs.ChildWords as kid
use Rattle.table_runs.proofs.SquareMoves.{begun, worker_made, claims_at, draws_for, comes_to, owned_head, owned_history, owned_died, owned_name, found_at, finds_absent, goes_to, finds_known, knows}
use Rattle.table_runs.specs.SquareStock.{third_words, opened, bisected, bisected_more}
use Rattle.table_runs.proofs.SquareNotes.{lt01, lt02, lt03, lt12, lt24, en, kids_noted, old_words, past_four}
use Rattle.table_runs.proofs.SquarePair.{lt23, bisects_first, kids_again}
use Rattle.table_runs.proofs.ChildNotes.{old_child}
use Rattle.table_runs.proofs.StockNotes.{third_plan, third_aim, bisects_again}
use Rattle.table_runs.proofs.SquareStock1.{u60}

-- round 3: the patch is bisected again, by block 0 from row 0
abbrev pub u61 : Views
u61 = begun third_plan u60

pub s61 : Step pair_setup (state opened 3 u60) (state opened 3 u61)
s61 = ByBeginStep (third_plan, [], refl, third_aim, lt24, refl, refl, refl)

abbrev pub u62 : Views
u62 = worker_made 3 1 u61

pub s62 : Step pair_setup (state opened 3 u61) (state opened 4 u62)
s62 = BySplitStep (Worker, 1, 0, inl (refl, inl refl, refl, refl), 1, false, inr (inr (lt01, refl, refl)), [], (λ k h. absurd h), refl)

abbrev pub u63 : Views
u63 = found_at 3 0 name0 u62

pub s63 : Step pair_setup (state opened 4 u62) (state opened 4 u63)
s63 = ByWorkTop (3, refl, refl, 0, lt02, refl)

abbrev pub u64 : Views
u64 = found_at 3 1 name1 u63

pub s64 : Step pair_setup (state opened 4 u63) (state opened 4 u64)
s64 = ByWorkTop (3, refl, refl, 1, lt12, refl)

abbrev pub u65 : Views
u65 = finds_absent 3 name0 u64

pub s65 : Step pair_setup (state opened 4 u64) (state opened 4 u65)
s65 = ByWorkEnds (3, refl, 0, name0, node 0 0, inl (inl (inr (inl refl)), refl), inl refl, refl)

abbrev pub u66 : Views
u66 = claims_at 3 0 2 u65

pub s66 : Step pair_setup (state opened 4 u65) (state (root.claimed opened) 4 u66)
s66 = ByClaimStep (3, 0, 2, name0, refl, refl, refl, inl (inl refl), inl refl, inr (inl refl), inr (1, 536870912, refl, refl, inl refl), refl)

abbrev pub u67 : Views
u67 = draws_for 3 0 0 0 u66

pub s67 : Step pair_setup (state (root.claimed opened) 4 u66) (state (root.drawn opened) 4 u67)
s67 = ByDrawStep (3, 0, 2, inl refl, refl, lt02, refl)

abbrev pub u68 : Views
u68 = owned_head 3 0 (node 0 0) u67

pub s68 : Step pair_setup (state (root.drawn opened) 4 u67) (state (root.drawn opened) 4 u68)
s68 = ByLoadHead (3, 0, refl)

abbrev pub u69 : Views
u69 = owned_head 3 1 (node 0 0) u68

pub s69 : Step pair_setup (state (root.drawn opened) 4 u68) (state (root.drawn opened) 4 u69)
s69 = ByLoadHead (3, 1, refl)

abbrev pub u70 : Views
u70 = owned_history 3 (member_of 0 false) (node 0 0) u69

pub s70 : Step pair_setup (state (root.drawn opened) 4 u69) (state (root.history0 opened) 4 u70)
s70 = ByFillHistory (3, 0, 2, 0, inl refl, refl, false, node 0 0, refl)

abbrev pub u71 : Views
u71 = owned_history 3 (member_of 0 true) (node 0 0) u70

pub s71 : Step pair_setup (state (root.history0 opened) 4 u70) (state (root.history1 opened) 4 u71)
s71 = ByFillHistory (3, 0, 2, 0, inl refl, refl, true, node 0 0, refl)

abbrev pub u72 : Views
u72 = owned_died 3 0 0 u71

pub s72 : Step pair_setup (state (root.history1 opened) 4 u71) (state (root.undead opened) 4 u72)
s72 = ByFillDied (3, 0, 2, 0, inl refl, refl, 0, refl)

abbrev pub u73 : Views
u73 = owned_name 3 (member_of 0 false) name0 u72

pub s73 : Step pair_setup (state (root.undead opened) 4 u72) (state (root.named0 opened) 4 u73)
s73 = ByFillName (3, 0, 2, 0, inl refl, refl, false, name0, refl)

abbrev pub u74 : Views
u74 = owned_name 3 (member_of 0 true) name1 u73

pub s74 : Step pair_setup (state (root.named0 opened) 4 u73) (state (root.named1 opened) 4 u74)
s74 = ByFillName (3, 0, 2, 0, inl refl, refl, true, name1, refl)

abbrev pub u75 : Views
u75 = owned_head 3 (child_place 2 0 false false) (node 0 0) u74

pub s75 : Step pair_setup (state (root.named1 opened) 4 u74) (state (root.child0 opened) 4 u75)
s75 = ByFillChild (3, 0, 2, 0, inl refl, refl, false, false, node 0 0, refl)

abbrev pub u76 : Views
u76 = owned_head 3 (child_place 2 0 false true) (node 0 0) u75

pub s76 : Step pair_setup (state (root.child0 opened) 4 u75) (state (root.child1 opened) 4 u76)
s76 = ByFillChild (3, 0, 2, 0, inl refl, refl, false, true, node 0 0, refl)

abbrev pub u77 : Views
u77 = owned_head 3 (child_place 2 0 true false) (node 0 0) u76

pub s77 : Step pair_setup (state (root.child1 opened) 4 u76) (state (root.child2 opened) 4 u77)
s77 = ByFillChild (3, 0, 2, 0, inl refl, refl, true, false, node 0 0, refl)

abbrev pub u78 : Views
u78 = owned_head 3 (child_place 2 0 true true) (node 0 0) u77

pub s78 : Step pair_setup (state (root.child2 opened) 4 u77) (state (root.child3 opened) 4 u78)
s78 = ByFillChild (3, 0, 2, 0, inl refl, refl, true, true, node 0 0, refl)

abbrev pub u79 : Views
u79 = comes_to 3 0 (Half 0) u78

pub s79 : Step pair_setup (state (root.child3 opened) 4 u78) (state (root.linked0 opened) 4 u79)
s79 = ByLinkFirst (3, 0, 2, 0, name0, inl refl, refl, inl (refl, refl), inr (en 1 0 lt01, inl (refl, refl)), inl (refl, refl), refl, kids_noted ((1, node 0 0) ∷ (0, node 0 0) ∷ []), old_words, inr (inl refl), inr (1, 536870912, refl, refl, inl refl), Half 0, inl refl, refl)

abbrev pub u80 : Views
u80 = comes_to 3 0 (Whole 0) u79

pub s80 : Step pair_setup (state (root.linked0 opened) 4 u79) (state (root.linked1 opened) 4 u80)
s80 = ByLinkSecond (3, 0, 1, 0, node 0 0, inl refl, refl, past_four ((1, node 0 0) ∷ (0, node 0 0) ∷ []) 1 (node 0 0) lt12 (inl (refl, refl)), inl (refl, refl), refl)

abbrev pub u81 : Views
u81 = knows 3 0 (Living 0) (name0 ∷ []) u80

pub s81 : Step pair_setup (state (root.linked1 opened) 4 u80) (state bisected 4 u81)
s81 = ByPublishStep (3, 0, 2, 0, inl refl, refl, name0 ∷ [], bisects_first, refl)

-- and its first child, by block 1 from row 1
abbrev pub u82 : Views
u82 = goes_to 3 0 name0 0 false u81

pub s82 : Step pair_setup (state bisected 4 u81) (state bisected 4 u82)
s82 = ByWorkGoes (3, refl, 0, name0, 0, node 1 0, inl (inr (inr (lt02, refl)), refl), refl, inl refl, false, refl, refl)

abbrev pub u83 : Views
u83 = finds_known pair_setup 3 name0 0 false u82

pub s83 : Step pair_setup (state bisected 4 u82) (state bisected 4 u83)
s83 = ByWorkFinds (3, refl, refl, 0, name0, 0, false, refl, lt03, refl)

abbrev pub u84 : Views
u84 = finds_absent 3 child_name u83

pub s84 : Step pair_setup (state bisected 4 u83) (state bisected 4 u84)
s84 = ByWorkEnds (3, refl, at_child, child_name, node 0 0, inl (inl (inl refl), refl), inl refl, refl)

abbrev pub u85 : Views
u85 = claims_at 3 at_child 0 u84

pub s85 : Step pair_setup (state bisected 4 u84) (state (kid.claimed bisected) 4 u85)
s85 = ByClaimStep (3, at_child, 0, child_name, refl, refl, refl, inl (inl refl), inr (inr (inl refl)), inl refl, inl (refl, refl), refl)

abbrev pub u86 : Views
u86 = draws_for 3 at_child 1 1 u85

pub k86 : DrawStep pair_setup (kid.claimed bisected) 4 u85 (state (kid.drawn bisected) 4 u86)
k86 = (3, at_child, 0, inl refl, refl, lt12, refl)

pub s86 : Step pair_setup (state (kid.claimed bisected) 4 u85) (state (kid.drawn bisected) 4 u86)
s86 = ByDrawStep k86

abbrev pub u87 : Views
u87 = owned_head 3 at_child (node 0 0) u86

pub s87 : Step pair_setup (state (kid.drawn bisected) 4 u86) (state (kid.drawn bisected) 4 u87)
s87 = ByLoadHead (3, at_child, refl)

abbrev pub u88 : Views
u88 = owned_history 3 (member_of 1 false) (node 0 0) u87

pub s88 : Step pair_setup (state (kid.drawn bisected) 4 u87) (state (kid.history0 bisected) 4 u88)
s88 = ByFillHistory (3, at_child, 0, 1, inl refl, refl, false, node 0 0, refl)

abbrev pub u89 : Views
u89 = owned_history 3 (member_of 1 true) (node 0 0) u88

pub s89 : Step pair_setup (state (kid.history0 bisected) 4 u88) (state (kid.history1 bisected) 4 u89)
s89 = ByFillHistory (3, at_child, 0, 1, inl refl, refl, true, node 0 0, refl)

abbrev pub u90 : Views
u90 = owned_died 3 1 0 u89

pub s90 : Step pair_setup (state (kid.history1 bisected) 4 u89) (state (kid.undead bisected) 4 u90)
s90 = ByFillDied (3, at_child, 0, 1, inl refl, refl, 0, refl)

abbrev pub u91 : Views
u91 = owned_name 3 (member_of 1 false) child_name u90

pub s91 : Step pair_setup (state (kid.undead bisected) 4 u90) (state (kid.named0 bisected) 4 u91)
s91 = ByFillName (3, at_child, 0, 1, inl refl, refl, false, child_name, refl)

abbrev pub u92 : Views
u92 = owned_name 3 (member_of 1 true) 0 u91

pub s92 : Step pair_setup (state (kid.named0 bisected) 4 u91) (state (kid.named1 bisected) 4 u92)
s92 = ByFillName (3, at_child, 0, 1, inl refl, refl, true, 0, refl)

abbrev pub u93 : Views
u93 = owned_head 3 (child_place 2 1 false false) (node 0 0) u92

pub s93 : Step pair_setup (state (kid.named1 bisected) 4 u92) (state (kid.kid0 bisected) 4 u93)
s93 = ByFillChild (3, at_child, 0, 1, inl refl, refl, false, false, node 0 0, refl)

abbrev pub u94 : Views
u94 = owned_head 3 (child_place 2 1 false true) (node 0 0) u93

pub s94 : Step pair_setup (state (kid.kid0 bisected) 4 u93) (state (kid.kid1 bisected) 4 u94)
s94 = ByFillChild (3, at_child, 0, 1, inl refl, refl, false, true, node 0 0, refl)

abbrev pub u95 : Views
u95 = owned_head 3 (child_place 2 1 true false) (node 0 0) u94

pub s95 : Step pair_setup (state (kid.kid1 bisected) 4 u94) (state (kid.kid2 bisected) 4 u95)
s95 = ByFillChild (3, at_child, 0, 1, inl refl, refl, true, false, node 0 0, refl)

abbrev pub u96 : Views
u96 = owned_head 3 (child_place 2 1 true true) (node 0 0) u95

pub s96 : Step pair_setup (state (kid.kid2 bisected) 4 u95) (state (kid.kid3 bisected) 4 u96)
s96 = ByFillChild (3, at_child, 0, 1, inl refl, refl, true, true, node 0 0, refl)

abbrev pub u97 : Views
u97 = comes_to 3 at_child (Whole 1) u96

pub s97 : Step pair_setup (state (kid.kid3 bisected) 4 u96) (state (kid.linked bisected) 4 u97)
s97 = ByLinkFirst (3, at_child, 0, 1, child_name, inl refl, refl, inl (refl, refl), inr (en 3 2 lt23, inl (refl, refl)), inl (refl, refl), refl, kids_again ((at_child, node 0 0) ∷ []), old_child, inl refl, inl (refl, refl), Whole 1, inr (refl, refl), refl)

abbrev pub u98 : Views
u98 = knows 3 at_child (Living 1) (child_name ∷ name0 ∷ []) u97

pub s98 : Step pair_setup (state (kid.linked bisected) 4 u97) (state bisected_more 4 u98)
s98 = ByPublishStep (3, at_child, 0, 1, inl refl, refl, child_name ∷ name0 ∷ [], bisects_again, refl)

abbrev pub third_states : List State
third_states = state opened 3 u61 ∷ state opened 4 u62 ∷ state opened 4 u63 ∷ state opened 4 u64 ∷ state opened 4 u65 ∷ state (root.claimed opened) 4 u66 ∷ state (root.drawn opened) 4 u67 ∷ state (root.drawn opened) 4 u68 ∷ state (root.drawn opened) 4 u69 ∷ state (root.history0 opened) 4 u70 ∷ state (root.history1 opened) 4 u71 ∷ state (root.undead opened) 4 u72 ∷ state (root.named0 opened) 4 u73 ∷ state (root.named1 opened) 4 u74 ∷ state (root.child0 opened) 4 u75 ∷ state (root.child1 opened) 4 u76 ∷ state (root.child2 opened) 4 u77 ∷ state (root.child3 opened) 4 u78 ∷ state (root.linked0 opened) 4 u79 ∷ state (root.linked1 opened) 4 u80 ∷ state bisected 4 u81 ∷ state bisected 4 u82 ∷ state bisected 4 u83 ∷ state bisected 4 u84 ∷ state (kid.claimed bisected) 4 u85 ∷ state (kid.drawn bisected) 4 u86 ∷ state (kid.drawn bisected) 4 u87 ∷ state (kid.history0 bisected) 4 u88 ∷ state (kid.history1 bisected) 4 u89 ∷ state (kid.undead bisected) 4 u90 ∷ state (kid.named0 bisected) 4 u91 ∷ state (kid.named1 bisected) 4 u92 ∷ state (kid.kid0 bisected) 4 u93 ∷ state (kid.kid1 bisected) 4 u94 ∷ state (kid.kid2 bisected) 4 u95 ∷ state (kid.kid3 bisected) 4 u96 ∷ state (kid.linked bisected) 4 u97 ∷ state bisected_more 4 u98 ∷ []

pub third_run : Run pair_setup (state opened 3 u60) third_states
third_run = (s61, (s62, (s63, (s64, (s65, (s66, (s67, (s68, (s69, (s70, (s71, (s72, (s73, (s74, (s75, (s76, (s77, (s78, (s79, (s80, (s81, (s82, (s83, (s84, (s85, (s86, (s87, (s88, (s89, (s90, (s91, (s92, (s93, (s94, (s95, (s96, (s97, (s98, tt))))))))))))))))))))))))))))))))))))))

pub third_along : Along third_states (opened ∷ third_words)
third_along = (refl, inr (refl, inr (refl, inr (refl, inr (refl, inl (refl, inl (refl, inr (refl, inr (refl, inl (refl, inl (refl, inl (refl, inl (refl, inl (refl, inl (refl, inl (refl, inl (refl, inl (refl, inl (refl, inl (refl, inl (refl, inr (refl, inr (refl, inr (refl, inl (refl, inl (refl, inr (refl, inl (refl, inl (refl, inl (refl, inl (refl, inl (refl, inl (refl, inl (refl, inl (refl, inl (refl, inl (refl, inl (refl, inl refl))))))))))))))))))))))))))))))))))))))
