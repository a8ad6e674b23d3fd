-- A run on the square that is refused once the block was drawn.
use Rattle.std.proofs.Common.{List, [], ◌∷◌, refl, inl, inr}
use Rattle.table_words.specs.Views.{Views}
use Rattle.table_state.specs.Fresh.{fresh_words}
use Rattle.table_steps.specs.SweepSteps.{UndrawStep}
use Rattle.table_steps.specs.States.{State, state}
use Rattle.table_steps.specs.Steps.{Run, Step, ByJoinWorker, ByRefuseStep, ByRestoreStep, ByUndrawStep}
use Rattle.table_runs.specs.SquareKinds.{fresh_state}
use Rattle.table_runs.specs.SquareRun.{square_setup, claimed, drawn}
use Rattle.table_runs.specs.SquareFull.{undrawn, SquareUndrawn}
use Rattle.table_runs.proofs.SquareMoves.{refused, restored, joined, undraws}
use Rattle.table_runs.proofs.SquareNotes.{lt01, en}
use Rattle.table_runs.proofs.SquareRound1.{v1, v2, v3, v4, v5, v6, v7, v8}
use Rattle.table_runs.proofs.SquareSteps1.{s1, s2, s3, s4, s5, s6, s7, s8}

abbrev pub u9 : Views
u9 = joined 1 0 v8

s9 : Step square_setup (state drawn 2 v8) (state drawn 2 u9)
s9 = ByJoinWorker (1, en 1 0 lt01, refl, 0, refl, refl)

abbrev pub u10 : Views
u10 = refused u9

s10 : Step square_setup (state drawn 2 u9) (state drawn 2 u10)
s10 = ByRefuseStep (refl, refl, refl)

abbrev pub u11 : Views
u11 = undraws 0 0 u10

pub k11 : UndrawStep square_setup drawn 2 u10 (state undrawn 2 u11)
k11 = (refl, 0, 2, 0, inl refl, refl)

s11 : Step square_setup (state drawn 2 u10) (state undrawn 2 u11)
s11 = ByUndrawStep k11

abbrev pub u12 : Views
u12 = restored u11

s12 : Step square_setup (state undrawn 2 u11) (state undrawn 2 u12)
s12 = ByRestoreStep (refl, refl, refl)

abbrev pub run_states : List State
run_states = state (fresh_words 1) 1 v1 ∷ state (fresh_words 1) 2 v2 ∷ state (fresh_words 1) 2 v3 ∷ state (fresh_words 1) 2 v4 ∷ state (fresh_words 1) 2 v5 ∷ state (fresh_words 1) 2 v6 ∷ state claimed 2 v7 ∷ state drawn 2 v8 ∷ state drawn 2 u9 ∷ state drawn 2 u10 ∷ state undrawn 2 u11 ∷ state undrawn 2 u12 ∷ []

pub run : Run square_setup (fresh_state 1) run_states
run = (s1, (s2, (s3, (s4, (s5, (s6, (s7, (s8, (s9, (s10, (s11, (s12, tt))))))))))))

pub square_undrawn : SquareUndrawn
square_undrawn = (run_states, run, (refl, inr (refl, inr (refl, inr (refl, inr (refl, inr (refl, inr (refl, inl (refl, inl (refl, inr (refl, inr (refl, inl (refl, inr (refl, inl refl))))))))))))))
