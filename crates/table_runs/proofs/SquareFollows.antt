-- The square's run as a whole.
use Rattle.std.proofs.Common.{List, [], ◌∷◌, refl, inl, inr}
use Rattle.table_state.specs.Fresh.{fresh_words, fresh_views}
use Rattle.table_steps.specs.States.{State, state}
use Rattle.table_steps.specs.Steps.{Run}
use Rattle.table_runs.specs.SquareRun.{square_setup, SquareFollows, claimed, drawn, history0, history1, undead, named0, named1, child0, child1, child2, child3, linked0, linked1, published, unclaimed, finished1, stopped, rewound, pinned, retired, stamped0, stamped1, finished2, unpinned, cut0, cut1, unborn, laid, opened, claimed_again, drawn_again}
use Rattle.table_runs.proofs.SquareRound1.{v1, v2, v3, v4, v5, v6, v7, v8, v9, v10, v11, v12, v13, v14, v15, v16, v17, v18, v19, v20, v21, v22, v23, v24, v25, v26, v27, v28}
use Rattle.table_runs.proofs.SquareSteps1.{s1, s2, s3, s4, s5, s6, s7, s8, s9, s10, s11, s12, s13, s14, s15, s16, s17, s18, s19, s20, s21, s22, s23, s24, s25, s26, s27, s28}
use Rattle.table_runs.proofs.SquareRound2.{v29, v30, v31, v32, v33, v34, v35, v36, v37, v38, v39, v40, v41, v42, v43, v44, v45, v46, v47, v48, v49, v50, v51, v52, v53, v54, v55, v56, v57, v58}
use Rattle.table_runs.proofs.SquareSteps2.{s29, s30, s31, s32, s33, s34, s35, s36, s37, s38, s39, s40, s41, s42, s43, s44, s45, s46, s47, s48, s49, s50, s51, s52, s53, s54, s55, s56, s57, s58}
use Rattle.table_runs.proofs.SquareRound3.{v59, v60, v61, v62, v63, v64, v65, v66, v67, v68, v69, v70, v71, v72, v73, v74, v75, v76, v77, v78, v79, v80, v81, v82}
use Rattle.table_runs.proofs.SquareSteps3.{s59, s60, s61, s62, s63, s64, s65, s66, s67, s68, s69, s70, s71, s72, s73, s74, s75, s76, s77, s78, s79, s80, s81, s82}

abbrev pub run_states : List State
run_states = state (fresh_words 1) 1 v1 ∷ state (fresh_words 1) 2 v2 ∷ state (fresh_words 1) 2 v3 ∷ state (fresh_words 1) 2 v4 ∷ state (fresh_words 1) 2 v5 ∷ state (fresh_words 1) 2 v6 ∷ state claimed 2 v7 ∷ state drawn 2 v8 ∷ state drawn 2 v9 ∷ state drawn 2 v10 ∷ state history0 2 v11 ∷ state history1 2 v12 ∷ state undead 2 v13 ∷ state named0 2 v14 ∷ state named1 2 v15 ∷ state child0 2 v16 ∷ state child1 2 v17 ∷ state child2 2 v18 ∷ state child3 2 v19 ∷ state linked0 2 v20 ∷ state linked1 2 v21 ∷ state published 2 v22 ∷ state published 2 v23 ∷ state published 2 v24 ∷ state published 2 v25 ∷ state published 2 v26 ∷ state unclaimed 2 v27 ∷ state finished1 2 v28 ∷ state finished1 2 v29 ∷ state finished1 2 v30 ∷ state finished1 2 v31 ∷ state finished1 2 v32 ∷ state stopped 2 v33 ∷ state rewound 2 v34 ∷ state rewound 3 v35 ∷ state rewound 3 v36 ∷ state pinned 3 v37 ∷ state pinned 3 v38 ∷ state pinned 3 v39 ∷ state pinned 4 v40 ∷ state pinned 4 v41 ∷ state pinned 4 v42 ∷ state pinned 4 v43 ∷ state pinned 4 v44 ∷ state pinned 4 v45 ∷ state pinned 4 v46 ∷ state pinned 4 v47 ∷ state pinned 4 v48 ∷ state pinned 4 v49 ∷ state retired 4 v50 ∷ state retired 4 v51 ∷ state retired 4 v52 ∷ state retired 4 v53 ∷ state retired 4 v54 ∷ state retired 4 v55 ∷ state stamped0 4 v56 ∷ state stamped1 4 v57 ∷ state finished2 4 v58 ∷ state unpinned 4 v59 ∷ state unpinned 4 v60 ∷ state unpinned 4 v61 ∷ state unpinned 4 v62 ∷ state unpinned 4 v63 ∷ state cut0 4 v64 ∷ state cut1 4 v65 ∷ state cut1 4 v66 ∷ state cut1 4 v67 ∷ state cut1 4 v68 ∷ state cut1 4 v69 ∷ state cut1 4 v70 ∷ state unborn 4 v71 ∷ state laid 4 v72 ∷ state opened 4 v73 ∷ state opened 4 v74 ∷ state opened 4 v75 ∷ state opened 5 v76 ∷ state opened 5 v77 ∷ state opened 5 v78 ∷ state opened 5 v79 ∷ state opened 5 v80 ∷ state claimed_again 5 v81 ∷ state drawn_again 5 v82 ∷ []

pub run : Run square_setup (state (fresh_words 1) 1 (fresh_views 1)) run_states
run = (s1, (s2, (s3, (s4, (s5, (s6, (s7, (s8, (s9, (s10, (s11, (s12, (s13, (s14, (s15, (s16, (s17, (s18, (s19, (s20, (s21, (s22, (s23, (s24, (s25, (s26, (s27, (s28, (s29, (s30, (s31, (s32, (s33, (s34, (s35, (s36, (s37, (s38, (s39, (s40, (s41, (s42, (s43, (s44, (s45, (s46, (s47, (s48, (s49, (s50, (s51, (s52, (s53, (s54, (s55, (s56, (s57, (s58, (s59, (s60, (s61, (s62, (s63, (s64, (s65, (s66, (s67, (s68, (s69, (s70, (s71, (s72, (s73, (s74, (s75, (s76, (s77, (s78, (s79, (s80, (s81, (s82, tt))))))))))))))))))))))))))))))))))))))))))))))))))))))))))))))))))))))))))))))))))

pub square_follows : SquareFollows
square_follows = (run_states, run, (refl, inr (refl, inr (refl, inr (refl, inr (refl, inr (refl, inr (refl, inl (refl, inl (refl, inr (refl, inr (refl, inl (refl, inl (refl, inl (refl, inl (refl, inl (refl, inl (refl, inl (refl, inl (refl, inl (refl, inl (refl, inl (refl, inl (refl, inr (refl, inr (refl, inr (refl, inr (refl, inl (refl, inl (refl, inr (refl, inr (refl, inr (refl, inr (refl, inl (refl, inl (refl, inr (refl, inr (refl, inl (refl, inr (refl, inr (refl, inr (refl, inr (refl, inr (refl, inr (refl, inr (refl, inr (refl, inr (refl, inr (refl, inr (refl, inr (refl, inl (refl, inr (refl, inr (refl, inr (refl, inr (refl, inr (refl, inl (refl, inl (refl, inl (refl, inl (refl, inr (refl, inr (refl, inr (refl, inr (refl, inl (refl, inl (refl, inr (refl, inr (refl, inr (refl, inr (refl, inr (refl, inl (refl, inl (refl, inl (refl, inr (refl, inr (refl, inr (refl, inr (refl, inr (refl, inr (refl, inr (refl, inl (refl, inl (refl, inl refl))))))))))))))))))))))))))))))))))))))))))))))))))))))))))))))))))))))))))))))))))))
