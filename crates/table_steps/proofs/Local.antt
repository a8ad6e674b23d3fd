-- Each step writes at most one word, and changes the view of its seat.
use Rattle.std.proofs.Common.{◌≡◌, ℕ, ◌+◌, ◌⊎◌, refl, sym, subst, inl, inr, arith}
use Rattle.table_words.specs.Places.{member_of, child_place}
use Rattle.table_words.specs.Setup.{Setup}
use Rattle.table_words.specs.Words.{Words, node}
use Rattle.table_words.specs.Writes.{WriteNothing, WriteRound, WriteCursor, WriteFree, WriteReleased, WriteRow, WriteClaim, WriteLink, WriteLinkAndClaim, WriteHistory, WriteBorn, WriteDied, WriteName}
use Rattle.table_words.specs.Views.{Views, Phase, Resting, FirstHalf, SecondHalf, Closing, RollingBack}
use Rattle.table_steps.specs.States.{StepKind, State}
use Rattle.table_steps.specs.WorkSteps.{ClaimStep, DrawStep, FullStep, FillHistory, FillName, FillDied, FillChild, LinkFirst, LinkSecond, PublishStep, RetireStep, RetiredStep}
use Rattle.table_steps.specs.WalkSteps.{WorkTop, WorkEnds, WorkGoes, WorkFinds, WorkHad, WorkBoth, WorkPasses, WorkGives, WorkDead, WorkOpen, LoadHead, LoadHistory, LoadBorn, LoadDied, LoadName, LoadRow}
use Rattle.table_steps.specs.PinSteps.{LoadRound, PinStep, UnpinStep, ReadEnds, ReadGoes, ReadFinds, ReadPasses}
use Rattle.table_steps.specs.OwnerSteps.{NoteDrained, LoadCursor, LoadFree, NoteFree, LoadReleased, NoteQuiet, NotePlaces, SplitStep, JoinWorker, JoinReader, BeginStep, PlanStep, CloseStep, RefuseStep, RestoreStep, AdvanceStep}
use Rattle.table_steps.specs.SweepSteps.{StampStep, UnclaimStep, CutLink, CutHistory, FreeStep, ZeroStep, StopStep, RewindStep, RowStep, OpenStep, UnbearStep, UnlinkSecond, UnlinkFirst, BuryStep, UndrawStep}
use Rattle.table_steps.specs.Steps.{ByClaimStep, ByDrawStep, ByFullStep, ByFillHistory, ByFillName, ByFillDied, ByFillChild, ByLinkFirst, ByLinkSecond, ByPublishStep, ByRetireStep, ByRetiredStep, ByWorkTop, ByWorkEnds, ByWorkGoes, ByWorkFinds, ByWorkHad, ByWorkBoth, ByWorkPasses, ByWorkGives, ByWorkDead, ByWorkOpen, ByLoadHead, ByLoadHistory, ByLoadBorn, ByLoadDied, ByLoadName, ByLoadRow, ByLoadRound, ByPinStep, ByUnpinStep, ByReadEnds, ByReadGoes, ByReadFinds, ByReadPasses, ByNoteDrained, ByLoadCursor, ByLoadFree, ByNoteFree, ByLoadReleased, ByNoteQuiet, ByNotePlaces, BySplitStep, ByJoinWorker, ByJoinReader, ByBeginStep, ByPlanStep, ByCloseStep, ByRefuseStep, ByRestoreStep, ByAdvanceStep, ByStampStep, ByUnclaimStep, ByCutLink, ByCutHistory, ByFreeStep, ByZeroStep, ByStopStep, ByRewindStep, ByRowStep, ByOpenStep, ByUnbearStep, ByUnlinkSecond, ByUnlinkFirst, ByBuryStep, ByUndrawStep}
use Rattle.table_steps.specs.Local.{IsLocal, StepsLocal}

-- so a kind of step is local
abbrev Local : StepKind → Type 0
Local K = (s : Setup) (w : Words) (n : ℕ) (v : Views) (after : State) → K s w n v after → IsLocal s w n v after

-- the owner's step is in neither half
still : {p : Phase} → (p ≡ Resting) ⊎ (p ≡ Closing) ⊎ (p ≡ RollingBack) → (p ≡ FirstHalf → ⊥) × (p ≡ SecondHalf → ⊥)
still (inl a) = ((λ e. cc), λ e. cc)
still (inr (inl a)) = ((λ e. cc), λ e. cc)
still (inr (inr a)) = ((λ e. cc), λ e. cc)

claim_step : Local ClaimStep
claim_step s w n v after (j, x, m, k, kind, bit, lead, absent, aimed, here, mate, e) = subst (IsLocal s w n v) (sym e) (WriteClaim x 1, refl, (j, j, inr (inl (kind, (bit, refl))), inl refl, inl refl, (inl refl, inr (inl (_, refl)), inl refl, inr (inl (_, refl)), inl refl, inl refl)))

draw_step : Local DrawStep
draw_step s w n v after (j, x, m, mine, kind, low, e) = subst (IsLocal s w n v) (sym e) (WriteCursor (w.cursor + 1), refl, (j, j, inr (inl (kind, (refl, (x, m, mine)))), inl refl, inl refl, (inl refl, inr (inl (_, refl)), inr (inl (_, refl)), inr (inl (_, refl)), inl refl, inl refl)))

full_step : Local FullStep
full_step s w n v after (j, x, m, mine, kind, low, e) = subst (IsLocal s w n v) (sym e) (WriteCursor (w.cursor + 1), refl, (j, j, inr (inl (kind, (refl, (x, m, mine)))), inl refl, inl refl, (inl refl, inr (inl (_, refl)), inr (inl (_, refl)), inr (inl (_, refl)), inl refl, inl refl)))

fill_history : Local FillHistory
fill_history s w n v after (j, x, m, b, mine, kind, t, l, e) = subst (IsLocal s w n v) (sym e) (WriteHistory (member_of b t) l, refl, (j, j, inr (inl (kind, (b, t, (x, m, mine), refl))), inl refl, inl refl, (inl refl, inl refl, inl refl, inr (inl (_, refl)), inl refl, inl refl)))

fill_name : Local FillName
fill_name s w n v after (j, x, m, b, mine, kind, t, k, e) = subst (IsLocal s w n v) (sym e) (WriteName (member_of b t) k, refl, (j, j, inr (inl (kind, (b, t, (x, m, mine), refl))), inl refl, inl refl, (inl refl, inl refl, inl refl, inr (inl (_, refl)), inl refl, inl refl)))

fill_died : Local FillDied
fill_died s w n v after (j, x, m, b, mine, kind, k, e) = subst (IsLocal s w n v) (sym e) (WriteDied b k, refl, (j, j, inr (inl (kind, inl (x, m, mine))), inl refl, inl refl, (inl refl, inl refl, inl refl, inr (inl (_, refl)), inl refl, inl refl)))

fill_child : Local FillChild
fill_child s w n v after (j, x, m, b, mine, kind, t, c, l, e) = subst (IsLocal s w n v) (sym e) (WriteLink (child_place s.elements b t c) l, refl, (j, j, inr (inl (kind, inl (b, t, c, (x, m, mine), refl))), inl refl, inl refl, (inl refl, inl refl, inl refl, inr (inl (_, refl)), inl refl, inl refl)))

link_first : Local LinkFirst
link_first s w n v after (j, x, m, b, k, mine, kind, died, name0, name1, lead, kids, histories, place, mate, q, how, e) = subst (IsLocal s w n v) (sym e) (WriteLink x (node (b + 1) 0), refl, (j, j, inr (inl (kind, inr (b, inl (m, mine), refl))), inl refl, inl refl, (inl refl, inr (inl (_, refl)), inl refl, inl refl, inl refl, inl refl)))

link_second : Local LinkSecond
link_second s w n v after (j, x, y, b, l, mine, kind, f1, f2, e) = subst (IsLocal s w n v) (sym e) (WriteLink y (node (b + 1) 0), refl, (j, j, inr (inl (kind, inr (b, inr (x, mine), refl))), inl refl, inl refl, (inl refl, inr (inl (_, refl)), inl refl, inl refl, inl refl, inl refl)))

publish_step : Local PublishStep
publish_step s w n v after (j, x, m, b, mine, kind, known, right, e) = subst (IsLocal s w n v) (sym e) (WriteBorn b (v.work j).round, refl, (j, j, inr (inl (kind, (refl, (x, m, mine)))), inl refl, inl refl, (inl refl, inr (inl (_, refl)), inr (inl (_, refl)), inl refl, inl refl, inl refl)))

retire_step : Local RetireStep
retire_step s w n v after (j, b, k, given, kind, listed, zero_, leaves, mates, names, right, e) = subst (IsLocal s w n v) (sym e) (WriteDied b (v.work j).round, refl, (j, j, inr (inl (kind, inr (zero_, refl, (k, given)))), inl refl, inl refl, (inl refl, inl refl, inr (inl (_, refl)), inl refl, inl refl, inl refl)))

retired_step : Local RetiredStep
retired_step s w n v after (j, kind, second_, b, k, given, dead, names, right, e) = subst (IsLocal s w n v) (sym e) (WriteNothing, refl, (j, j, inl refl, inl refl, inl refl, (inl refl, inl refl, inr (inl (_, refl)), inl refl, inl refl, inl refl)))

work_top : Local WorkTop
work_top s w n v after (j, kind, first_, x, low, e) = subst (IsLocal s w n v) (sym e) (WriteNothing, refl, (j, j, inl refl, inl refl, inl refl, (inl refl, inl refl, inr (inl (_, refl)), inl refl, inl refl, inl refl)))

work_ends : Local WorkEnds
work_ends s w n v after (j, kind, x, k, l, next, stop, e) = subst (IsLocal s w n v) (sym e) (WriteNothing, refl, (j, j, inl refl, inl refl, inl refl, (inl refl, inl refl, inr (inl (_, refl)), inl refl, inl refl, inl refl)))

work_goes : Local WorkGoes
work_goes s w n v after (j, kind, x, k, b, l, next, is, may, t, named, e) = subst (IsLocal s w n v) (sym e) (WriteNothing, refl, (j, j, inl refl, inl refl, inl refl, (inl refl, inl refl, inr (inl (_, refl)), inl refl, inl refl, inl refl)))

work_finds : Local WorkFinds
work_finds s w n v after (j, kind, first_, x, k, b, t, at, p, e) = subst (IsLocal s w n v) (sym e) (WriteNothing, refl, (j, j, inl refl, inl refl, inl refl, (inl refl, inl refl, inr (inl (_, refl)), inl refl, inl refl, inl refl)))

work_had : Local WorkHad
work_had s w n v after (j, kind, x, k, b, t, at, second_, p, low, e) = subst (IsLocal s w n v) (sym e) (WriteNothing, refl, (j, j, inl refl, inl refl, inl refl, (inl refl, inl refl, inr (inl (_, refl)), inl refl, inl refl, inl refl)))

work_both : Local WorkBoth
work_both s w n v after (j, kind, second_, b, k, i, t, had, is, e) = subst (IsLocal s w n v) (sym e) (WriteNothing, refl, (j, j, inl refl, inl refl, inl refl, (inl refl, inl refl, inr (inl (_, refl)), inl refl, inl refl, inl refl)))

work_passes : Local WorkPasses
work_passes s w n v after (j, kind, x, k, b, t, at, not, grown, how, e) = subst (IsLocal s w n v) (sym e) (WriteNothing, refl, (j, j, inl refl, inl refl, inl refl, (inl refl, inl refl, inr (inl (_, refl)), inl refl, inl refl, inl refl)))

work_gives : Local WorkGives
work_gives s w n v after (j, kind, second_, b, k, lead, had, e) = subst (IsLocal s w n v) (sym e) (WriteNothing, refl, (j, j, inl refl, inl refl, inl refl, (inl refl, inl refl, inr (inl (_, refl)), inl refl, inl refl, inl refl)))

work_dead : Local WorkDead
work_dead s w n v after (j, kind, second_, b, k, had, dead, e) = subst (IsLocal s w n v) (sym e) (WriteNothing, refl, (j, j, inl refl, inl refl, inl refl, (inl refl, inl refl, inr (inl (_, refl)), inl refl, inl refl, inl refl)))

work_open : Local WorkOpen
work_open s w n v after (j, kind, second_, x, k, mine, open_, grown, how, e) = subst (IsLocal s w n v) (sym e) (WriteNothing, refl, (j, j, inl refl, inl refl, inl refl, (inl refl, inl refl, inr (inl (_, refl)), inl refl, inl refl, inl refl)))

load_head : Local LoadHead
load_head s w n v after (j, x, e) = subst (IsLocal s w n v) (sym e) (WriteNothing, refl, (j, j, inl refl, inl refl, inl refl, (inl refl, inl refl, inl refl, inr (inl (_, refl)), inl refl, inl refl)))

load_history : Local LoadHistory
load_history s w n v after (j, x, e) = subst (IsLocal s w n v) (sym e) (WriteNothing, refl, (j, j, inl refl, inl refl, inl refl, (inl refl, inl refl, inl refl, inr (inl (_, refl)), inl refl, inl refl)))

load_born : Local LoadBorn
load_born s w n v after (j, x, e) = subst (IsLocal s w n v) (sym e) (WriteNothing, refl, (j, j, inl refl, inl refl, inl refl, (inl refl, inl refl, inl refl, inr (inl (_, refl)), inl refl, inl refl)))

load_died : Local LoadDied
load_died s w n v after (j, x, e) = subst (IsLocal s w n v) (sym e) (WriteNothing, refl, (j, j, inl refl, inl refl, inl refl, (inl refl, inl refl, inl refl, inr (inl (_, refl)), inl refl, inl refl)))

load_name : Local LoadName
load_name s w n v after (j, x, e) = subst (IsLocal s w n v) (sym e) (WriteNothing, refl, (j, j, inl refl, inl refl, inl refl, (inl refl, inl refl, inl refl, inr (inl (_, refl)), inl refl, inl refl)))

load_row : Local LoadRow
load_row s w n v after (j, x, e) = subst (IsLocal s w n v) (sym e) (WriteNothing, refl, (j, j, inl refl, inl refl, inl refl, (inl refl, inl refl, inl refl, inr (inl (_, refl)), inl refl, inl refl)))

load_round : Local LoadRound
load_round s w n v after (j, kind, ready, how, e) = subst (IsLocal s w n v) (sym e) (WriteNothing, refl, (j, j, inl refl, inl refl, inl refl, (inl refl, inl refl, inl refl, inl refl, inr (inl (_, refl)), inl refl)))

pin_step : Local PinStep
pin_step s w n v after (j, kind, none, ready, e) = subst (IsLocal s w n v) (sym e) (WriteRound w.round (w.taken + 1), refl, (j, j, inr (inr (inl (kind, (refl, refl, none)))), inl refl, inl refl, (inl refl, inl refl, inl refl, inl refl, inr (inl (_, refl)), inl refl)))

unpin_step : Local UnpinStep
unpin_step s w n v after (j, q, kind, pinned, e) = subst (IsLocal s w n v) (sym e) (WriteReleased q (w.released q + 1), refl, (j, j, inr (inr (inl (kind, (refl, pinned)))), inl refl, inl refl, (inl refl, inl refl, inl refl, inl refl, inr (inl (_, refl)), inl refl)))

read_ends : Local ReadEnds
read_ends s w n v after (j, q, kind, pinned, x, k, l, next, stop, e) = subst (IsLocal s w n v) (sym e) (WriteNothing, refl, (j, j, inl refl, inl refl, inl refl, (inl refl, inl refl, inl refl, inl refl, inr (inl (_, refl)), inl refl)))

read_goes : Local ReadGoes
read_goes s w n v after (j, q, kind, pinned, x, k, b, l, next, is, may, t, named, e) = subst (IsLocal s w n v) (sym e) (WriteNothing, refl, (j, j, inl refl, inl refl, inl refl, (inl refl, inl refl, inl refl, inl refl, inr (inl (_, refl)), inl refl)))

read_finds : Local ReadFinds
read_finds s w n v after (j, q, kind, pinned, x, k, b, t, at, p, low, e) = subst (IsLocal s w n v) (sym e) (WriteNothing, refl, (j, j, inl refl, inl refl, inl refl, (inl refl, inl refl, inl refl, inl refl, inr (inl (_, refl)), inl refl)))

read_passes : Local ReadPasses
read_passes s w n v after (j, q, kind, pinned, x, k, b, t, at, not, e) = subst (IsLocal s w n v) (sym e) (WriteNothing, refl, (j, j, inl refl, inl refl, inl refl, (inl refl, inl refl, inl refl, inl refl, inr (inl (_, refl)), inl refl)))

note_drained : Local NoteDrained
note_drained s w n v after (q, k, left, shown, e) = subst (IsLocal s w n v) (sym e) (WriteNothing, refl, (0, 0, inl refl, inl refl, inl refl, (inl refl, inl refl, inl refl, inl refl, inl refl, inr refl)))

load_cursor : Local LoadCursor
load_cursor s w n v after (out, e) = subst (IsLocal s w n v) (sym e) (WriteNothing, refl, (0, 0, inl refl, inl refl, inl refl, (inl refl, inl refl, inl refl, inl refl, inl refl, inr refl)))

load_free : Local LoadFree
load_free s w n v after e = subst (IsLocal s w n v) (sym e) (WriteNothing, refl, (0, 0, inl refl, inl refl, inl refl, (inl refl, inl refl, inl refl, inl refl, inl refl, inr refl)))

note_free : Local NoteFree
note_free s w n v after (i, b, home, low, high, row, e) = subst (IsLocal s w n v) (sym e) (WriteNothing, refl, (0, 0, inl refl, inl refl, inl refl, (inl refl, inl refl, inl refl, inl refl, inl refl, inr refl)))

load_released : Local LoadReleased
load_released s w n v after e = subst (IsLocal s w n v) (sym e) (WriteNothing, refl, (0, 0, inl refl, inl refl, inl refl, (inl refl, inl refl, inl refl, inl refl, inl refl, inr refl)))

note_quiet : Local NoteQuiet
note_quiet s w n v after (same, e) = subst (IsLocal s w n v) (sym e) (WriteNothing, refl, (0, 0, inl refl, inl refl, inl refl, (inl refl, inl refl, inl refl, inl refl, inl refl, inr refl)))

note_places : Local NotePlaces
note_places s w n v after (b, x, m, mine, e) = subst (IsLocal s w n v) (sym e) (WriteNothing, refl, (0, 0, inl refl, inl refl, inl refl, (inl refl, inl refl, inl refl, inl refl, inl refl, inr refl)))

split_step : Local SplitStep
split_step s w n v after (kind, workers, readers, which, number, lone, may, notes, told, e) = subst (IsLocal s w n v) (sym e) (WriteNothing, refl, (0, n, inl refl, inr refl, inr (refl, refl, refl), (inr (inr (inl (_, refl))), inr (inr (inl (_, refl))), inr (inr (inl (_, refl))), inr (inr (inr (_, _, refl))), inr (inr (inl (_, refl))), inr refl)))

join_worker : Local JoinWorker
join_worker s w n v after (j, far, kind, left, one, e) = subst (IsLocal s w n v) (sym e) (WriteNothing, refl, (0, j, inl refl, inr refl, inl refl, (inr (inr (inl (_, refl))), inr (inr (inr (_, _, refl))), inr (inr (inr (_, _, refl))), inr (inr (inr (_, _, refl))), inr (inr (inl (_, refl))), inr refl)))

join_reader : Local JoinReader
join_reader s w n v after (j, far, kind, none, left, early, one, which, e) = subst (IsLocal s w n v) (sym e) (WriteNothing, refl, (0, j, inl refl, inr refl, inl refl, (inr (inr (inl (_, refl))), inr (inr (inl (_, refl))), inr (inr (inl (_, refl))), inr (inr (inl (_, refl))), inr (inr (inr (_, _, refl))), inr refl)))

begin_step : Local BeginStep
begin_step s w n v after (plan, names, last, aim, room, zero_, cursor, e) = subst (IsLocal s w n v) (sym e) (WriteNothing, refl, (0, 0, inl refl, inl refl, inl refl, (inl refl, inl refl, inr (inl (_, refl)), inl refl, inl refl, inr refl)))

plan_step : Local PlanStep
plan_step s w n v after (retire, known, one, home, lives, e) = subst (IsLocal s w n v) (sym e) (WriteNothing, refl, (0, 0, inl refl, inl refl, inl refl, (inl refl, inl refl, inr (inl (_, refl)), inl refl, inl refl, inr refl)))

close_step : Local CloseStep
close_step s w n v after (gone, two, home, e) = subst (IsLocal s w n v) (sym e) (WriteNothing, refl, (0, 0, inl refl, inl refl, inl refl, (inl refl, inl refl, inr (inl (_, refl)), inl refl, inl refl, inr refl)))

refuse_step : Local RefuseStep
refuse_step s w n v after (one, home, e) = subst (IsLocal s w n v) (sym e) (WriteNothing, refl, (0, 0, inl refl, inl refl, inl refl, (inl refl, inl refl, inr (inl (_, refl)), inl refl, inl refl, inr refl)))

restore_step : Local RestoreStep
restore_step s w n v after (four, none, e) = subst (IsLocal s w n v) (sym e) (WriteNothing, refl, (0, 0, inl refl, inl refl, inl refl, (inl refl, inl refl, inr (inl (_, refl)), inl refl, inl refl, inr refl)))

advance_step : Local AdvanceStep
advance_step s w n v after (forest, of, all, three, none, shown, e) = subst (IsLocal s w n v) (sym e) (WriteRound (w.round + 1) 0, refl, (0, 0, inr (inr (inr (refl, still (inr (inl three)), (refl, refl, three)))), inl refl, inl refl, (inl refl, inl refl, inr (inl (_, refl)), inl refl, inl refl, inr refl)))

stamp_step : Local StampStep
stamp_step s w n v after (three, x, b, y, m, t, known, fair, side, f1, f2, e) = subst (IsLocal s w n v) (sym e) (WriteLink x _, refl, (0, 0, inr (inr (inr (refl, still (inr (inl three)), tt))), inl refl, inl refl, (inl refl, inl refl, inl refl, inr (inl (_, refl)), inl refl, inr refl)))

unclaim_step : Local UnclaimStep
unclaim_step s w n v after (quiet, late, x, m, p, mine, lives, dead, e) = subst (IsLocal s w n v) (sym e) (WriteClaim x 0, refl, (0, 0, inr (inr (inr (refl, quiet, refl))), inl refl, inl refl, (inl refl, inr (inl (_, refl)), inl refl, inl refl, inl refl, inr refl)))

cut_link : Local CutLink
cut_link s w n v after (zero_, x, b, last, y, m, t, l, f1, f2, f3, p, c, known, fair, side, e) = subst (IsLocal s w n v) (sym e) (WriteLink x _, refl, (0, 0, inr (inr (inr (refl, still (inl zero_), tt))), inl refl, inl refl, (inl refl, inl refl, inl refl, inr (inl (_, refl)), inl refl, inr refl)))

cut_history : Local CutHistory
cut_history s w n v after (zero_, a, z, i, x, b, last, y, m, u, t, l, f1, f2, f3, p, c, from, stood, known, fair, side, e) = subst (IsLocal s w n v) (sym e) (WriteHistory (member_of a u) _, refl, (0, 0, inr (inr (inr (refl, still (inl zero_), zero_))), inl refl, inl refl, (inl refl, inl refl, inl refl, inr (inl (_, refl)), inl refl, inr refl)))

free_step : Local FreeStep
free_step s w n v after (zero_, gone, hand, rolled_back, kept, placed, drained, hands, rests, keeps, stays, e) = subst (IsLocal s w n v) (sym e) (WriteNothing, refl, (0, 0, inl refl, inl refl, inl refl, (inl refl, inl refl, inl refl, inl refl, inl refl, inr refl)))

zero_step : Local ZeroStep
zero_step s w n v after (zero_, b, free, e) = subst (IsLocal s w n v) (sym e) (WriteBorn b 0, refl, (0, 0, inr (inr (inr (refl, still (inl zero_), refl))), inl refl, inl refl, (inl refl, inl refl, inl refl, inr (inl (_, refl)), inl refl, inr refl)))

stop_step : Local StopStep
stop_step s w n v after (zero_, k, c, free, cursor, used, e) = subst (IsLocal s w n v) (sym e) (WriteFree _, refl, (0, 0, inr (inr (inr (refl, still (inl zero_), zero_))), inl refl, inl refl, (inl refl, inl refl, inl refl, inl refl, inl refl, inr refl)))

rewind_step : Local RewindStep
rewind_step s w n v after (zero_, stopped, e) = subst (IsLocal s w n v) (sym e) (WriteCursor 0, refl, (0, 0, inr (inr (inr (refl, still (inl zero_), (refl, zero_)))), inl refl, inl refl, (inl refl, inl refl, inl refl, inl refl, inl refl, inr refl)))

row_step : Local RowStep
row_step s w n v after (zero_, i, b, stopped, out, e) = subst (IsLocal s w n v) (sym e) (WriteRow i _, refl, (0, 0, inr (inr (inr (refl, still (inl zero_), zero_))), inl refl, inl refl, (inl refl, inl refl, inl refl, inr (inl (_, refl)), inl refl, inr refl)))

open_step : Local OpenStep
open_step s w n v after (zero_, k, hand, stopped, rewound, below, rows, one, left, e) = subst (IsLocal s w n v) (sym e) (WriteFree _, refl, (0, 0, inr (inr (inr (refl, still (inl zero_), zero_))), inl refl, inl refl, (inl refl, inl refl, inl refl, inl refl, inl refl, inr refl)))

unbear_step : Local UnbearStep
unbear_step s w n v after (four, x, m, b, mine, e) = subst (IsLocal s w n v) (sym e) (WriteBorn b 0, refl, (0, 0, inr (inr (inr (refl, still (inr (inr four)), refl))), inl refl, inl refl, (inl refl, inr (inl (_, refl)), inl refl, inr (inl (_, refl)), inl refl, inr refl)))

unlink_second : Local UnlinkSecond
unlink_second s w n v after (four, x, y, b, l, mine, f, e) = subst (IsLocal s w n v) (sym e) (WriteLink y _, refl, (0, 0, inr (inr (inr (refl, still (inr (inr four)), tt))), inl refl, inl refl, (inl refl, inr (inl (_, refl)), inl refl, inr (inl (_, refl)), inl refl, inr refl)))

unlink_first : Local UnlinkFirst
unlink_first s w n v after (four, x, m, b, l, p, mine, how, f, e) = subst (IsLocal s w n v) (sym e) (WriteLinkAndClaim x _ 0, refl, (0, 0, inr (inr (inr (refl, still (inr (inr four)), refl))), inl refl, inl refl, (inl refl, inr (inl (_, refl)), inl refl, inr (inl (_, refl)), inl refl, inr refl)))

bury_step : Local BuryStep
bury_step s w n v after (quiet, b, known, e) = subst (IsLocal s w n v) (sym e) (WriteDied b _, refl, (0, 0, inr (inr (inr (refl, quiet, (refl, known)))), inl refl, inl refl, (inl refl, inl refl, inl refl, inr (inl (_, refl)), inl refl, inr refl)))

undraw_step : Local UndrawStep
undraw_step s w n v after (four, x, m, b, mine, e) = subst (IsLocal s w n v) (sym e) (WriteClaim x 0, refl, (0, 0, inr (inr (inr (refl, still (inr (inr four)), refl))), inl refl, inl refl, (inl refl, inr (inl (_, refl)), inl refl, inl refl, inl refl, inr refl)))

pub steps_local : StepsLocal
steps_local s a b (ByClaimStep h) = claim_step s a.words a.seats a.views b h
steps_local s a b (ByDrawStep h) = draw_step s a.words a.seats a.views b h
steps_local s a b (ByFullStep h) = full_step s a.words a.seats a.views b h
steps_local s a b (ByFillHistory h) = fill_history s a.words a.seats a.views b h
steps_local s a b (ByFillName h) = fill_name s a.words a.seats a.views b h
steps_local s a b (ByFillDied h) = fill_died s a.words a.seats a.views b h
steps_local s a b (ByFillChild h) = fill_child s a.words a.seats a.views b h
steps_local s a b (ByLinkFirst h) = link_first s a.words a.seats a.views b h
steps_local s a b (ByLinkSecond h) = link_second s a.words a.seats a.views b h
steps_local s a b (ByPublishStep h) = publish_step s a.words a.seats a.views b h
steps_local s a b (ByRetireStep h) = retire_step s a.words a.seats a.views b h
steps_local s a b (ByRetiredStep h) = retired_step s a.words a.seats a.views b h
steps_local s a b (ByWorkTop h) = work_top s a.words a.seats a.views b h
steps_local s a b (ByWorkEnds h) = work_ends s a.words a.seats a.views b h
steps_local s a b (ByWorkGoes h) = work_goes s a.words a.seats a.views b h
steps_local s a b (ByWorkFinds h) = work_finds s a.words a.seats a.views b h
steps_local s a b (ByWorkHad h) = work_had s a.words a.seats a.views b h
steps_local s a b (ByWorkBoth h) = work_both s a.words a.seats a.views b h
steps_local s a b (ByWorkPasses h) = work_passes s a.words a.seats a.views b h
steps_local s a b (ByWorkGives h) = work_gives s a.words a.seats a.views b h
steps_local s a b (ByWorkDead h) = work_dead s a.words a.seats a.views b h
steps_local s a b (ByWorkOpen h) = work_open s a.words a.seats a.views b h
steps_local s a b (ByLoadHead h) = load_head s a.words a.seats a.views b h
steps_local s a b (ByLoadHistory h) = load_history s a.words a.seats a.views b h
steps_local s a b (ByLoadBorn h) = load_born s a.words a.seats a.views b h
steps_local s a b (ByLoadDied h) = load_died s a.words a.seats a.views b h
steps_local s a b (ByLoadName h) = load_name s a.words a.seats a.views b h
steps_local s a b (ByLoadRow h) = load_row s a.words a.seats a.views b h
steps_local s a b (ByLoadRound h) = load_round s a.words a.seats a.views b h
steps_local s a b (ByPinStep h) = pin_step s a.words a.seats a.views b h
steps_local s a b (ByUnpinStep h) = unpin_step s a.words a.seats a.views b h
steps_local s a b (ByReadEnds h) = read_ends s a.words a.seats a.views b h
steps_local s a b (ByReadGoes h) = read_goes s a.words a.seats a.views b h
steps_local s a b (ByReadFinds h) = read_finds s a.words a.seats a.views b h
steps_local s a b (ByReadPasses h) = read_passes s a.words a.seats a.views b h
steps_local s a b (ByNoteDrained h) = note_drained s a.words a.seats a.views b h
steps_local s a b (ByLoadCursor h) = load_cursor s a.words a.seats a.views b h
steps_local s a b (ByLoadFree h) = load_free s a.words a.seats a.views b h
steps_local s a b (ByNoteFree h) = note_free s a.words a.seats a.views b h
steps_local s a b (ByLoadReleased h) = load_released s a.words a.seats a.views b h
steps_local s a b (ByNoteQuiet h) = note_quiet s a.words a.seats a.views b h
steps_local s a b (ByNotePlaces h) = note_places s a.words a.seats a.views b h
steps_local s a b (BySplitStep h) = split_step s a.words a.seats a.views b h
steps_local s a b (ByJoinWorker h) = join_worker s a.words a.seats a.views b h
steps_local s a b (ByJoinReader h) = join_reader s a.words a.seats a.views b h
steps_local s a b (ByBeginStep h) = begin_step s a.words a.seats a.views b h
steps_local s a b (ByPlanStep h) = plan_step s a.words a.seats a.views b h
steps_local s a b (ByCloseStep h) = close_step s a.words a.seats a.views b h
steps_local s a b (ByRefuseStep h) = refuse_step s a.words a.seats a.views b h
steps_local s a b (ByRestoreStep h) = restore_step s a.words a.seats a.views b h
steps_local s a b (ByAdvanceStep h) = advance_step s a.words a.seats a.views b h
steps_local s a b (ByStampStep h) = stamp_step s a.words a.seats a.views b h
steps_local s a b (ByUnclaimStep h) = unclaim_step s a.words a.seats a.views b h
steps_local s a b (ByCutLink h) = cut_link s a.words a.seats a.views b h
steps_local s a b (ByCutHistory h) = cut_history s a.words a.seats a.views b h
steps_local s a b (ByFreeStep h) = free_step s a.words a.seats a.views b h
steps_local s a b (ByZeroStep h) = zero_step s a.words a.seats a.views b h
steps_local s a b (ByStopStep h) = stop_step s a.words a.seats a.views b h
steps_local s a b (ByRewindStep h) = rewind_step s a.words a.seats a.views b h
steps_local s a b (ByRowStep h) = row_step s a.words a.seats a.views b h
steps_local s a b (ByOpenStep h) = open_step s a.words a.seats a.views b h
steps_local s a b (ByUnbearStep h) = unbear_step s a.words a.seats a.views b h
steps_local s a b (ByUnlinkSecond h) = unlink_second s a.words a.seats a.views b h
steps_local s a b (ByUnlinkFirst h) = unlink_first s a.words a.seats a.views b h
steps_local s a b (ByBuryStep h) = bury_step s a.words a.seats a.views b h
steps_local s a b (ByUndrawStep h) = undraw_step s a.words a.seats a.views b h
