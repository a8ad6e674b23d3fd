-- What is read in the run that bisects the patch of the square twice.
use Rattle.std.proofs.Common.{◌≡◌, ℕ, ◌+◌, List, [], refl, inl, inr}
use Rattle.mesh_names.specs.Squares.{square}
use Rattle.mesh_names.specs.Validity.{across_of}
use Rattle.mesh_names.proofs.Squares.{squares_fit}
use Rattle.table_words.specs.Entries.{HasEntry, EntryAt}
use Rattle.table_words.specs.NameWords.{name_code}
use Rattle.table_words.specs.Views.{Views, Closing}
use Rattle.table_words.specs.Words.{Words}
use Rattle.table_state.specs.Bisections.{IsKept}
use Rattle.table_state.specs.Lists.{IsListed}
use Rattle.table_reading.proofs.ReadingLaws.{reads_history, reads_closing}
use Rattle.table_steps.specs.States.{state}
use Rattle.table_runs.specs.SquareKinds.{RunsTo}
use Rattle.table_runs.specs.SquareTwice.{pair_setup, ReadsNames, TwiceReads, published, finished1, retired, stamped1, finished2, linked3, published_again, finished3, cut1}
use Rattle.table_runs.proofs.SquareKinds.{reach, runs_lawful}
use Rattle.table_runs.proofs.SquareLists.{both, both_stay, none_stays}
use Rattle.table_runs.proofs.SquareTwice.{twice_states, twice_run}
use Rattle.table_runs.proofs.SquareTwice1.{u25, u28}
use Rattle.table_runs.proofs.SquareTwice2.{u60, u65, u66}
use Rattle.table_runs.proofs.SquareTwice3.{u92, u106, u109, u118}

pub reads_kept : (w : Words) (n : ℕ) (v : Views) → RunsTo 2 (state w n v) → (q : ℕ) → IsKept w.round v.read q → (names : List ℕ) → EntryAt v.ruling.history q names → ReadsNames w q names
reads_kept w n v run q kept names at = reads_history square (across_of square) (record { rounds = 4; elements = 2; pool = 2 }) 1 (squares_fit.0).2 w n v (runs_lawful 2 (state w n v) run) q kept names at

-- while the round is closed the current round has the names of the target, but for the patches of the retire list
pub reads_closed : (w : Words) (n : ℕ) (v : Views) → RunsTo 2 (state w n v) → v.ruling.phase ≡ Closing → (names : List ℕ) → ((i : ℕ) → HasEntry names i → HasEntry v.ruling.plan.target i × (IsListed pair_setup v.ruling.plan.retire i → ⊥))
    → ((i : ℕ) → HasEntry v.ruling.plan.target i → (IsListed pair_setup v.ruling.plan.retire i → ⊥) → HasEntry names i) → ReadsNames w (w.round + 1) names
reads_closed w n v run closed names of all name = let t = reads_closing square (across_of square) (record { rounds = 4; elements = 2; pool = 2 }) 1 (squares_fit.0).2 w n v (runs_lawful 2 (state w n v) run) closed name in (
  (λ h. let u = t.0 h in (u.0, all (name_code name) u.1 u.2)),
  λ h. let u = of (name_code name) h.1 in t.1 (h.0, u.0, u.1),
)

pub twice_reads : TwiceReads
twice_reads = record {
  published = reads_closed published 2 u25 (reach 2 twice_states twice_run 25) refl both both_stay (λ i h _. h);
  finished1 = reads_kept finished1 2 u28 (reach 2 twice_states twice_run 28) 1 (inl refl) both refl;
  retired = (reads_kept retired 4 u60 (reach 2 twice_states twice_run 60) 1 (inl refl) both refl, reads_closed retired 4 u60 (reach 2 twice_states twice_run 60) refl [] (λ i h. absurd h) none_stays);
  stamped = reads_kept stamped1 4 u65 (reach 2 twice_states twice_run 65) 1 (inl refl) both refl;
  finished2 = reads_kept finished2 4 u66 (reach 2 twice_states twice_run 66) 2 (inl refl) [] refl;
  linked_again = reads_kept linked3 7 u92 (reach 2 twice_states twice_run 92) 2 (inl refl) [] refl;
  published_again = (reads_kept published_again 7 u106 (reach 2 twice_states twice_run 106) 2 (inl refl) [] refl, reads_closed published_again 7 u106 (reach 2 twice_states twice_run 106) refl both both_stay (λ i h _. h));
  finished3 = (reads_kept finished3 7 u109 (reach 2 twice_states twice_run 109) 2 (inr (4, refl)) [] refl, reads_kept finished3 7 u109 (reach 2 twice_states twice_run 109) 3 (inl refl) both refl);
  cut = (reads_kept cut1 7 u118 (reach 2 twice_states twice_run 118) 2 (inr (4, refl)) [] refl, reads_kept cut1 7 u118 (reach 2 twice_states twice_run 118) 3 (inl refl) both refl);
}
