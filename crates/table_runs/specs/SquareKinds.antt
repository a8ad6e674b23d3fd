-- In which runs on the square each kind of step occurs.
use Rattle.std.specs.Prelude.{◌≡◌, ℕ, List, [], ◌∷◌}
use Rattle.mesh_names.specs.Squares.{square}
use Rattle.mesh_names.specs.Validity.{across_of}
use Rattle.table_words.specs.Setup.{Setup, setup_of}
use Rattle.table_words.specs.Views.{Worker, Views}
use Rattle.table_state.specs.Fresh.{fresh_words, fresh_views}
use Rattle.table_steps.specs.WorkSteps.{ClaimStep, DrawStep, FullStep, FillHistory, FillName, FillDied, FillChild, LinkFirst, LinkSecond, PublishStep}
use Rattle.table_steps.specs.WorkSteps.{RetireStep, RetiredStep}
use Rattle.table_steps.specs.WalkSteps.{WorkTop, WorkEnds, WorkGoes, WorkFinds, WorkHad, WorkBoth, WorkPasses, WorkGives, WorkDead, WorkOpen, LoadHead}
use Rattle.table_steps.specs.WalkSteps.{LoadHistory, LoadBorn, LoadDied, LoadName, LoadRow}
use Rattle.table_steps.specs.PinSteps.{LoadRound, PinStep, UnpinStep, ReadEnds, ReadGoes, ReadFinds, ReadPasses}
use Rattle.table_steps.specs.OwnerSteps.{NoteDrained, LoadCursor, LoadFree, NoteFree, LoadReleased, NoteQuiet, NotePlaces, SplitStep, JoinWorker, JoinReader}
use Rattle.table_steps.specs.OwnerSteps.{BeginStep, PlanStep, CloseStep, RefuseStep, RestoreStep, AdvanceStep}
use Rattle.table_steps.specs.SweepSteps.{StampStep, UnclaimStep, CutLink, CutHistory, FreeStep, ZeroStep, StopStep, RewindStep, RowStep, OpenStep, UnbearStep}
use Rattle.table_steps.specs.SweepSteps.{UnlinkSecond, UnlinkFirst, BuryStep, UndrawStep}
use Rattle.table_steps.specs.States.{StepKind, State, state, IsLawful}
use Rattle.table_steps.specs.Steps.{Run, Step}
use Rattle.table_words.specs.Writes.{Write, WriteClaim, written}
use Rattle.table_steps.specs.Local.{MayWrite}
use Rattle.table_runs.specs.SquareRun.{claimed, drawn}

-- a table over the square with so many blocks, for four rounds and one reader's pass, and its fresh state
abbrev pub square_with : ℕ → Setup
square_with pool = setup_of square (across_of square) (record { rounds = 4; elements = 2; pool = pool }) 1

abbrev pub fresh_state : ℕ → State
fresh_state pool = state (fresh_words pool) 1 (fresh_views pool)

-- the last of the states, or a where there is none
abbrev pub last_of : State → List State → State
last_of a [] = a
last_of a (b ∷ bs) = last_of b bs

-- a run leads from the fresh table with so many blocks to the state
abbrev pub RunsTo : ℕ → State → Type 0
RunsTo pool a = (states : List State) × Run (square_with pool) (fresh_state pool) states × (last_of (fresh_state pool) states ≡ a)

-- the law that each such state is lawful
abbrev pub RunsLawful : Type 0
RunsLawful = (pool : ℕ) (a : State) → RunsTo pool a → IsLawful (square_with pool) a

-- a run leads to a state from which a step of this kind is taken, which is one of the steps
abbrev pub Occurs : ℕ → StepKind → Type 0
Occurs pool K = (a b : State) × RunsTo pool a × K (square_with pool) a.words a.seats a.views b × Step (square_with pool) a b

-- the law that a claim and a draw are not one change of a word
abbrev pub TwoWords : Type 0
TwoWords = (u : Write) → written (fresh_words 1) u ≡ drawn → ⊥

-- the law that the first claim of a run is a change that a worker's pass alone may make
abbrev pub WorkersClaim : Type 0
WorkersClaim = (v : Views) (j : ℕ) (u : Write) → written (fresh_words 1) u ≡ claimed → MayWrite (square_with 1) (fresh_words 1) v j u → v.kind j ≡ Worker

-- the law that each kind of step occurs, with one block or with two
pub record KindsOccur : Type 0 where
  pub claim_step : Occurs 1 ClaimStep
  pub draw_step : Occurs 1 DrawStep
  pub full_step : Occurs 1 FullStep
  pub fill_history : Occurs 1 FillHistory
  pub fill_name : Occurs 1 FillName
  pub fill_died : Occurs 1 FillDied
  pub fill_child : Occurs 1 FillChild
  pub link_first : Occurs 1 LinkFirst
  pub link_second : Occurs 1 LinkSecond
  pub publish_step : Occurs 1 PublishStep
  pub retire_step : Occurs 1 RetireStep
  pub retired_step : Occurs 2 RetiredStep
  pub work_top : Occurs 1 WorkTop
  pub work_ends : Occurs 1 WorkEnds
  pub work_goes : Occurs 1 WorkGoes
  pub work_finds : Occurs 2 WorkFinds
  pub work_had : Occurs 1 WorkHad
  pub work_both : Occurs 1 WorkBoth
  pub work_passes : Occurs 2 WorkPasses
  pub work_gives : Occurs 1 WorkGives
  pub work_dead : Occurs 2 WorkDead
  pub work_open : Occurs 1 WorkOpen
  pub load_head : Occurs 1 LoadHead
  pub load_history : Occurs 1 LoadHistory
  pub load_born : Occurs 2 LoadBorn
  pub load_died : Occurs 1 LoadDied
  pub load_name : Occurs 2 LoadName
  pub load_row : Occurs 1 LoadRow
  pub load_round : Occurs 1 LoadRound
  pub pin_step : Occurs 1 PinStep
  pub unpin_step : Occurs 1 UnpinStep
  pub read_ends : Occurs 1 ReadEnds
  pub read_goes : Occurs 1 ReadGoes
  pub read_finds : Occurs 1 ReadFinds
  pub read_passes : Occurs 2 ReadPasses
  pub note_drained : Occurs 1 NoteDrained
  pub load_cursor : Occurs 1 LoadCursor
  pub load_free : Occurs 1 LoadFree
  pub note_free : Occurs 2 NoteFree
  pub load_released : Occurs 1 LoadReleased
  pub note_quiet : Occurs 1 NoteQuiet
  pub note_places : Occurs 1 NotePlaces
  pub split_step : Occurs 1 SplitStep
  pub join_worker : Occurs 1 JoinWorker
  pub join_reader : Occurs 1 JoinReader
  pub begin_step : Occurs 1 BeginStep
  pub plan_step : Occurs 1 PlanStep
  pub close_step : Occurs 1 CloseStep
  pub refuse_step : Occurs 1 RefuseStep
  pub restore_step : Occurs 1 RestoreStep
  pub advance_step : Occurs 1 AdvanceStep
  pub stamp_step : Occurs 1 StampStep
  pub unclaim_step : Occurs 1 UnclaimStep
  pub cut_link : Occurs 1 CutLink
  pub cut_history : Occurs 2 CutHistory
  pub free_step : Occurs 1 FreeStep
  pub zero_step : Occurs 1 ZeroStep
  pub stop_step : Occurs 1 StopStep
  pub rewind_step : Occurs 1 RewindStep
  pub row_step : Occurs 1 RowStep
  pub open_step : Occurs 1 OpenStep
  pub unbear_step : Occurs 1 UnbearStep
  pub unlink_second : Occurs 1 UnlinkSecond
  pub unlink_first : Occurs 1 UnlinkFirst
  pub bury_step : Occurs 1 BuryStep
  pub undraw_step : Occurs 1 UndrawStep
