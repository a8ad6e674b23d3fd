-- The run that bisects the patch of the square twice, as a whole.
use Rattle.std.proofs.Common.{◌++◌, List, [], ◌∷◌, refl, inl, inr}
use Rattle.table_steps.specs.States.{State, state}
use Rattle.table_steps.specs.Steps.{Run}
use Rattle.table_runs.specs.SquareKinds.{fresh_state}
use Rattle.table_runs.specs.SquareRun.{Along}
use Rattle.table_runs.specs.SquareTwice.{SquareTwice, opened_words, rest_words, pair_setup, opened, retired, stamped0, stamped1, finished2, pinned, claimed_again, drawn_again, history2, history3, undead_again, named2, named3, child4, child5, child6, child7, linked2, linked3, published_again, unclaimed_again, finished3, cut0, cut1}
use Rattle.table_runs.proofs.Segments.{run_append, along_on}
use Rattle.table_runs.proofs.SquareTwice1.{opened_states, opened_run, opened_along}
use Rattle.table_runs.proofs.SquareTwice2.{u39, u40, u41, u42, u43, u44, u45, u46, u47, u48, u49, u50, u51, u52, u53, u54, u55, u56, u57, u58, u59, u60, u61, u62, u63, u64, u65, u66, u67, u68, u69, s39, s40, s41, s42, s43, s44, s45, s46, s47, s48, s49, s50, s51, s52, s53, s54, s55, s56, s57, s58, s59, s60, s61, s62, s63, s64, s65, s66, s67, s68, s69}
use Rattle.table_runs.proofs.SquareTwice3.{u70, u71, u72, u73, u74, u75, u76, u77, u78, u79, u80, u81, u82, u83, u84, u85, u86, u87, u88, u89, u90, u91, u92, u93, u94, u95, u96, u97, u98, u99, u100, u101, u102, u103, u104, u105, u106, u107, u108, u109, u110, u111, u112, u113, u114, u115, u116, u117, u118, s70, s71, s72, s73, s74, s75, s76, s77, s78, s79, s80, s81, s82, s83, s84, s85, s86, s87, s88, s89, s90, s91, s92, s93, s94, s95, s96, s97, s98, s99, s100, s101, s102, s103, s104, s105, s106, s107, s108, s109, s110, s111, s112, s113, s114, s115, s116, s117, s118}

abbrev rest_states : List State
rest_states = state opened 2 u39 ∷ state opened 2 u40 ∷ state opened 3 u41 ∷ state opened 3 u42 ∷ state opened 3 u43 ∷ state opened 3 u44 ∷ state opened 3 u45 ∷ state opened 3 u46 ∷ state opened 3 u47 ∷ state opened 3 u48 ∷ state opened 3 u49 ∷ state opened 3 u50 ∷ state retired 3 u51 ∷ state retired 4 u52 ∷ state retired 4 u53 ∷ state retired 4 u54 ∷ state retired 4 u55 ∷ state retired 4 u56 ∷ state retired 4 u57 ∷ state retired 4 u58 ∷ state retired 4 u59 ∷ state retired 4 u60 ∷ state retired 4 u61 ∷ state retired 4 u62 ∷ state retired 4 u63 ∷ state stamped0 4 u64 ∷ state stamped1 4 u65 ∷ state finished2 4 u66 ∷ state finished2 5 u67 ∷ state finished2 5 u68 ∷ state pinned 5 u69 ∷ state pinned 5 u70 ∷ state pinned 5 u71 ∷ state pinned 6 u72 ∷ state pinned 7 u73 ∷ state pinned 7 u74 ∷ state pinned 7 u75 ∷ state pinned 7 u76 ∷ state pinned 7 u77 ∷ state claimed_again 7 u78 ∷ state drawn_again 7 u79 ∷ state drawn_again 7 u80 ∷ state drawn_again 7 u81 ∷ state history2 7 u82 ∷ state history3 7 u83 ∷ state undead_again 7 u84 ∷ state named2 7 u85 ∷ state named3 7 u86 ∷ state child4 7 u87 ∷ state child5 7 u88 ∷ state child6 7 u89 ∷ state child7 7 u90 ∷ state linked2 7 u91 ∷ state linked3 7 u92 ∷ state linked3 7 u93 ∷ state linked3 7 u94 ∷ state linked3 7 u95 ∷ state linked3 7 u96 ∷ state published_again 7 u97 ∷ state published_again 7 u98 ∷ state published_again 7 u99 ∷ state published_again 7 u100 ∷ state published_again 7 u101 ∷ state published_again 7 u102 ∷ state published_again 7 u103 ∷ state published_again 7 u104 ∷ state published_again 7 u105 ∷ state published_again 7 u106 ∷ state published_again 7 u107 ∷ state unclaimed_again 7 u108 ∷ state finished3 7 u109 ∷ state finished3 7 u110 ∷ state finished3 7 u111 ∷ state finished3 7 u112 ∷ state finished3 7 u113 ∷ state finished3 7 u114 ∷ state finished3 7 u115 ∷ state finished3 7 u116 ∷ state cut0 7 u117 ∷ state cut1 7 u118 ∷ []

abbrev pub twice_states : List State
twice_states = opened_states ++ rest_states

pub twice_run : Run pair_setup (fresh_state 2) twice_states
twice_run = run_append pair_setup (fresh_state 2) opened_states rest_states opened_run (s39, (s40, (s41, (s42, (s43, (s44, (s45, (s46, (s47, (s48, (s49, (s50, (s51, (s52, (s53, (s54, (s55, (s56, (s57, (s58, (s59, (s60, (s61, (s62, (s63, (s64, (s65, (s66, (s67, (s68, (s69, (s70, (s71, (s72, (s73, (s74, (s75, (s76, (s77, (s78, (s79, (s80, (s81, (s82, (s83, (s84, (s85, (s86, (s87, (s88, (s89, (s90, (s91, (s92, (s93, (s94, (s95, (s96, (s97, (s98, (s99, (s100, (s101, (s102, (s103, (s104, (s105, (s106, (s107, (s108, (s109, (s110, (s111, (s112, (s113, (s114, (s115, (s116, (s117, (s118, tt))))))))))))))))))))))))))))))))))))))))))))))))))))))))))))))))))))))))))))))))

rest_along : Along rest_states (opened ∷ rest_words)
rest_along = (refl, inr (refl, inr (refl, inr (refl, inr (refl, inr (refl, inr (refl, inr (refl, inr (refl, inr (refl, inr (refl, inr (refl, inl (refl, inr (refl, inr (refl, inr (refl, inr (refl, inr (refl, inr (refl, inr (refl, inr (refl, inr (refl, inr (refl, inr (refl, inr (refl, inl (refl, inl (refl, inl (refl, inr (refl, inr (refl, inl (refl, inr (refl, inr (refl, inr (refl, inr (refl, inr (refl, inr (refl, inr (refl, inr (refl, inl (refl, inl (refl, inr (refl, inr (refl, inl (refl, inl (refl, inl (refl, inl (refl, inl (refl, inl (refl, inl (refl, inl (refl, inl (refl, inl (refl, inl (refl, inr (refl, inr (refl, inr (refl, inr (refl, inl (refl, inr (refl, inr (refl, inr (refl, inr (refl, inr (refl, inr (refl, inr (refl, inr (refl, inr (refl, inr (refl, inl (refl, inl (refl, inr (refl, inr (refl, inr (refl, inr (refl, inr (refl, inr (refl, inr (refl, inl (refl, inl (refl, inl refl))))))))))))))))))))))))))))))))))))))))))))))))))))))))))))))))))))))))))))))))

pub square_twice : SquareTwice
square_twice = (twice_states, twice_run, along_on (fresh_state 2) opened_states rest_states opened opened_words rest_words opened_along rest_along)
