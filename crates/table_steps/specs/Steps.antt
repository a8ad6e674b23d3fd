-- The steps of the table's seats, and runs of them.
use Rattle.std.specs.Prelude.{List, [], ◌∷◌}
use Rattle.table_words.specs.Setup.{Setup}
use Rattle.table_steps.specs.WorkSteps.{ClaimStep, DrawStep, FullStep, FillHistory, FillName, FillDied, FillChild, LinkFirst, LinkSecond, PublishStep}
use Rattle.table_steps.specs.WorkSteps.{RetireStep, RetiredStep}
use Rattle.table_steps.specs.WalkSteps.{WorkTop, WorkEnds, WorkGoes, WorkFinds, WorkHad, WorkBoth, WorkPasses, WorkGives, WorkDead, WorkOpen, LoadHead}
use Rattle.table_steps.specs.WalkSteps.{LoadHistory, LoadBorn, LoadDied, LoadName, LoadRow}
use Rattle.table_steps.specs.PinSteps.{LoadRound, PinStep, UnpinStep, ReadEnds, ReadGoes, ReadFinds, ReadPasses}
use Rattle.table_steps.specs.OwnerSteps.{NoteDrained, LoadCursor, LoadFree, NoteFree, LoadReleased, NoteQuiet, NotePlaces, SplitStep, JoinWorker, JoinReader}
use Rattle.table_steps.specs.OwnerSteps.{BeginStep, PlanStep, CloseStep, RefuseStep, RestoreStep, AdvanceStep}
use Rattle.table_steps.specs.SweepSteps.{StampStep, UnclaimStep, CutLink, CutHistory, FreeStep, ZeroStep, StopStep, RewindStep, RowStep, OpenStep, UnbearStep}
use Rattle.table_steps.specs.SweepSteps.{UnlinkSecond, UnlinkFirst, BuryStep, UndrawStep}
use Rattle.table_steps.specs.States.{State, IsLawful}

-- a step of one seat from the state a to the state b
pub data Step (s : Setup) (a b : State) : Type 0 where
  ByClaimStep : ClaimStep s a.words a.seats a.views b → Step s a b
  ByDrawStep : DrawStep s a.words a.seats a.views b → Step s a b
  ByFullStep : FullStep s a.words a.seats a.views b → Step s a b
  ByFillHistory : FillHistory s a.words a.seats a.views b → Step s a b
  ByFillName : FillName s a.words a.seats a.views b → Step s a b
  ByFillDied : FillDied s a.words a.seats a.views b → Step s a b
  ByFillChild : FillChild s a.words a.seats a.views b → Step s a b
  ByLinkFirst : LinkFirst s a.words a.seats a.views b → Step s a b
  ByLinkSecond : LinkSecond s a.words a.seats a.views b → Step s a b
  ByPublishStep : PublishStep s a.words a.seats a.views b → Step s a b
  ByRetireStep : RetireStep s a.words a.seats a.views b → Step s a b
  ByRetiredStep : RetiredStep s a.words a.seats a.views b → Step s a b
  ByWorkTop : WorkTop s a.words a.seats a.views b → Step s a b
  ByWorkEnds : WorkEnds s a.words a.seats a.views b → Step s a b
  ByWorkGoes : WorkGoes s a.words a.seats a.views b → Step s a b
  ByWorkFinds : WorkFinds s a.words a.seats a.views b → Step s a b
  ByWorkHad : WorkHad s a.words a.seats a.views b → Step s a b
  ByWorkBoth : WorkBoth s a.words a.seats a.views b → Step s a b
  ByWorkPasses : WorkPasses s a.words a.seats a.views b → Step s a b
  ByWorkGives : WorkGives s a.words a.seats a.views b → Step s a b
  ByWorkDead : WorkDead s a.words a.seats a.views b → Step s a b
  ByWorkOpen : WorkOpen s a.words a.seats a.views b → Step s a b
  ByLoadHead : LoadHead s a.words a.seats a.views b → Step s a b
  ByLoadHistory : LoadHistory s a.words a.seats a.views b → Step s a b
  ByLoadBorn : LoadBorn s a.words a.seats a.views b → Step s a b
  ByLoadDied : LoadDied s a.words a.seats a.views b → Step s a b
  ByLoadName : LoadName s a.words a.seats a.views b → Step s a b
  ByLoadRow : LoadRow s a.words a.seats a.views b → Step s a b
  ByLoadRound : LoadRound s a.words a.seats a.views b → Step s a b
  ByPinStep : PinStep s a.words a.seats a.views b → Step s a b
  ByUnpinStep : UnpinStep s a.words a.seats a.views b → Step s a b
  ByReadEnds : ReadEnds s a.words a.seats a.views b → Step s a b
  ByReadGoes : ReadGoes s a.words a.seats a.views b → Step s a b
  ByReadFinds : ReadFinds s a.words a.seats a.views b → Step s a b
  ByReadPasses : ReadPasses s a.words a.seats a.views b → Step s a b
  ByNoteDrained : NoteDrained s a.words a.seats a.views b → Step s a b
  ByLoadCursor : LoadCursor s a.words a.seats a.views b → Step s a b
  ByLoadFree : LoadFree s a.words a.seats a.views b → Step s a b
  ByNoteFree : NoteFree s a.words a.seats a.views b → Step s a b
  ByLoadReleased : LoadReleased s a.words a.seats a.views b → Step s a b
  ByNoteQuiet : NoteQuiet s a.words a.seats a.views b → Step s a b
  ByNotePlaces : NotePlaces s a.words a.seats a.views b → Step s a b
  BySplitStep : SplitStep s a.words a.seats a.views b → Step s a b
  ByJoinWorker : JoinWorker s a.words a.seats a.views b → Step s a b
  ByJoinReader : JoinReader s a.words a.seats a.views b → Step s a b
  ByBeginStep : BeginStep s a.words a.seats a.views b → Step s a b
  ByPlanStep : PlanStep s a.words a.seats a.views b → Step s a b
  ByCloseStep : CloseStep s a.words a.seats a.views b → Step s a b
  ByRefuseStep : RefuseStep s a.words a.seats a.views b → Step s a b
  ByRestoreStep : RestoreStep s a.words a.seats a.views b → Step s a b
  ByAdvanceStep : AdvanceStep s a.words a.seats a.views b → Step s a b
  ByStampStep : StampStep s a.words a.seats a.views b → Step s a b
  ByUnclaimStep : UnclaimStep s a.words a.seats a.views b → Step s a b
  ByCutLink : CutLink s a.words a.seats a.views b → Step s a b
  ByCutHistory : CutHistory s a.words a.seats a.views b → Step s a b
  ByFreeStep : FreeStep s a.words a.seats a.views b → Step s a b
  ByZeroStep : ZeroStep s a.words a.seats a.views b → Step s a b
  ByStopStep : StopStep s a.words a.seats a.views b → Step s a b
  ByRewindStep : RewindStep s a.words a.seats a.views b → Step s a b
  ByRowStep : RowStep s a.words a.seats a.views b → Step s a b
  ByOpenStep : OpenStep s a.words a.seats a.views b → Step s a b
  ByUnbearStep : UnbearStep s a.words a.seats a.views b → Step s a b
  ByUnlinkSecond : UnlinkSecond s a.words a.seats a.views b → Step s a b
  ByUnlinkFirst : UnlinkFirst s a.words a.seats a.views b → Step s a b
  ByBuryStep : BuryStep s a.words a.seats a.views b → Step s a b
  ByUndrawStep : UndrawStep s a.words a.seats a.views b → Step s a b

-- a run: each state of the list comes by a step from the one before it, and the first from a
abbrev pub Run : Setup → State → List State → Type 0
Run s a [] = Unit {0}
Run s a (b ∷ bs) = Step s a b × Run s b bs

-- the law that each step keeps the rule
abbrev pub StepsKeep : Type 0
StepsKeep = (s : Setup) (a b : State) → Step s a b → IsLawful s a → IsLawful s b
