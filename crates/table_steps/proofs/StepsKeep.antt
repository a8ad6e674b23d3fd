-- Each step keeps the rule.
use Rattle.std.proofs.Common.{◌≡◌, ℕ, ◌+◌, Bool, ◌∷◌, refl, sym, ap, ◌∙◌, subst, inr, arith}
use Rattle.table_words.specs.Setup.{Setup}
use Rattle.table_words.specs.Functions.{update}
use Rattle.table_words.specs.Words.{Node, Words}
use Rattle.table_words.specs.Views.{Views, Work, Read, At, order, Vacant}
use Rattle.table_words.specs.Claims.{Progress, Claimed, Failed, Drawn, Half, Whole, Living}
use Rattle.table_words.proofs.Functions.{update_same}
use Rattle.table_state.specs.Ghosts.{chained, Ghost}
use Rattle.table_state.specs.Claims.{block_of}
use Rattle.table_state.specs.Rule.{Lawful, Rule}
use Rattle.table_steps.specs.States.{StepKind, State, IsLawful}
use Rattle.table_steps.specs.WorkSteps.{ClaimStep, DrawStep, FullStep, FillHistory, FillName, FillDied, FillChild, LinkFirst, LinkSecond, PublishStep, RetireStep, RetiredStep}
use Rattle.table_steps.specs.WalkSteps.{WorkTop, WorkEnds, WorkGoes, WorkFinds, WorkHad, WorkBoth, WorkPasses, WorkGives, WorkDead, WorkOpen, LoadHead, LoadHistory, LoadBorn, LoadDied, LoadName, LoadRow}
use Rattle.table_steps.specs.PinSteps.{LoadRound, PinStep, UnpinStep, ReadEnds, ReadGoes, ReadFinds, ReadPasses}
use Rattle.table_steps.specs.OwnerSteps.{NoteDrained, LoadCursor, LoadFree, NoteFree, LoadReleased, NoteQuiet, NotePlaces, SplitStep, JoinWorker, JoinReader, BeginStep, PlanStep, CloseStep, RefuseStep, RestoreStep, AdvanceStep}
use Rattle.table_steps.specs.SweepSteps.{StampStep, UnclaimStep, CutLink, CutHistory, FreeStep, ZeroStep, StopStep, RewindStep, RowStep, OpenStep, UnbearStep, UnlinkSecond, UnlinkFirst, BuryStep, UndrawStep}
use Rattle.table_steps.specs.Steps.{StepsKeep, ByClaimStep, ByDrawStep, ByFullStep, ByFillHistory, ByFillName, ByFillDied, ByFillChild, ByLinkFirst, ByLinkSecond, ByPublishStep, ByRetireStep, ByRetiredStep, ByWorkTop, ByWorkEnds, ByWorkGoes, ByWorkFinds, ByWorkHad, ByWorkBoth, ByWorkPasses, ByWorkGives, ByWorkDead, ByWorkOpen, ByLoadHead, ByLoadHistory, ByLoadBorn, ByLoadDied, ByLoadName, ByLoadRow, ByLoadRound, ByPinStep, ByUnpinStep, ByReadEnds, ByReadGoes, ByReadFinds, ByReadPasses, ByNoteDrained, ByLoadCursor, ByLoadFree, ByNoteFree, ByLoadReleased, ByNoteQuiet, ByNotePlaces, BySplitStep, ByJoinWorker, ByJoinReader, ByBeginStep, ByPlanStep, ByCloseStep, ByRefuseStep, ByRestoreStep, ByAdvanceStep, ByStampStep, ByUnclaimStep, ByCutLink, ByCutHistory, ByFreeStep, ByZeroStep, ByStopStep, ByRewindStep, ByRowStep, ByOpenStep, ByUnbearStep, ByUnlinkSecond, ByUnlinkFirst, ByBuryStep, ByUndrawStep}
use Rattle.table_state.proofs.HeldClaims.{uses}
use Rattle.table_state.proofs.Inside.{label_below, label_of}
use Rattle.table_state.proofs.TableLaws.{walk_sides}
use Rattle.table_state.proofs.ChainSteps.{named}
use Rattle.table_state.proofs.Across.{Went}
use Rattle.table_state.specs.Chains.{IsHead}
use Rattle.table_steps.specs.WalkLaws.{NextNamed}
use Rattle.table_steps.proofs.Claiming as claiming
use Rattle.table_steps.proofs.Draws as draws
use Rattle.table_steps.proofs.Filling as filling
use Rattle.table_steps.proofs.FirstLink as first
use Rattle.table_steps.proofs.SecondLink as second
use Rattle.table_steps.proofs.Publishing as publishing
use Rattle.table_steps.proofs.Retiring as retiring
use Rattle.table_steps.proofs.SecondHalf as half
use Rattle.table_steps.proofs.WorkerWalks as walks
use Rattle.table_steps.proofs.Loads as loads
use Rattle.table_steps.proofs.Pinning as pinning
use Rattle.table_steps.proofs.Splitting as splitting
use Rattle.table_steps.proofs.JoiningWorkers as workers
use Rattle.table_steps.proofs.JoiningReaders as readers
use Rattle.table_steps.proofs.EmptySeats as empty
use Rattle.table_steps.proofs.Phases as phases
use Rattle.table_steps.proofs.Sweeping as sweeping
use Rattle.table_steps.proofs.RollBack as back

-- so a kind of step keeps the rule
abbrev Keeps : StepKind → Type 0
Keeps K = (s : Setup) (w : Words) (n : ℕ) (v : Views) (after : State) → K s w n v after → Lawful s w n v → IsLawful s after

block_uses : (p : Progress) (b : ℕ) → uses p ≡ b + 1 → block_of p ≡ b + 1
block_uses Claimed b e = e
block_uses Failed b e = e
block_uses (Drawn c) b e = e
block_uses (Half c) b e = e
block_uses (Whole c) b e = e
block_uses (Living c) b e = e

claim_step : Keeps ClaimStep
claim_step s w n v after (j, x, m, k, kind, bit, lead, absent, aimed, here, mate, e) (g, r) = let f = (r.works j).found x k here in
    let low = label_below s w.name w.free w.row g.life g.stage v.ruling.hand v.ruling.retired r.inside x k (label_of s w n v g r (w.round + 1) (inr (refl, let o = f.0 in omega (arith, ap order o))) x k f.1) in
    subst (IsLawful s) (sym e) (_, claiming.claims s w n v g r j x m k kind bit lead low absent aimed here mate)

-- the view after a walk has gone to a member
abbrev work_at : Views → ℕ → ℕ → ℕ → ℕ → Bool → Views
work_at v j x k b t = record v { work = update v.work j (record (v.work j) { went = b ∷ (v.work j).went; walk = At x k b t }) }

abbrev read_at : Views → ℕ → ℕ → ℕ → ℕ → Bool → ℕ → Views
read_at v j x k b t d = record v { read = update v.read j (record (v.read j) { went = b ∷ (v.read j).went; walk = At x k b t; back = d }) }

-- the NAME words show which member it is
work_goes : Keeps WorkGoes
work_goes s w n v after (j, kind, x, k, b, l, next, is, may, t, named, e) (g, r) = let f = walks.goes_to s w n v g r j kind x k b l next is may in
    let same : t ≡ f.0 = ((walk_sides s w n (work_at v j x k b f.0) (g, f.1) j x k b f.0).0 (ap (λ (u : Work). u.walk) (update_same v.work j (record (v.work j) { went = b ∷ (v.work j).went; walk = At x k b f.0 }))) t).0 named in
    subst (IsLawful s) (sym e) (subst (λ (u : Bool). Lawful s w n (work_at v j x k b u)) (sym same) (g, f.1))

read_goes : Keeps ReadGoes
read_goes s w n v after (j, q, kind, pinned, x, k, b, l, next, is, may, t, named, e) (g, r) = let f = pinning.goes_to s w n v g r j q kind pinned x k b l next is may in
    let here = update_same v.read j (record (v.read j) { went = b ∷ (v.read j).went; walk = At x k b f.0; back = l.died }) in
    let same : t ≡ f.0 = ((walk_sides s w n (read_at v j x k b f.0 l.died) (g, f.1) j x k b f.0).1 q (ap (λ (u : Read). u.pin) here ∙ pinned) (ap (λ (u : Read). u.walk) here) t).0 named in
    subst (IsLawful s) (sym e) (subst (λ (u : Bool). Lawful s w n (read_at v j x k b u l.died)) (sym same) (g, f.1))

draw_step : Keeps DrawStep
draw_step s w n v after (j, x, m, mine, kind, low, e) (g, r) = subst (IsLawful s) (sym e) (_, draws.draws_one s w n v g r j x m mine kind low)

full_step : Keeps FullStep
full_step s w n v after (j, x, m, mine, kind, low, e) (g, r) = subst (IsLawful s) (sym e) (_, draws.draws_none s w n v g r j x m mine kind low)

fill_history : Keeps FillHistory
fill_history s w n v after (j, x, m, b, mine, kind, t, l, e) (g, r) = subst (IsLawful s) (sym e) (_, filling.fills_history s w n v g r j x m b mine kind t l)

fill_name : Keeps FillName
fill_name s w n v after (j, x, m, b, mine, kind, t, k, e) (g, r) = subst (IsLawful s) (sym e) (_, filling.fills_name s w n v g r j x m b mine kind t k)

fill_died : Keeps FillDied
fill_died s w n v after (j, x, m, b, mine, kind, k, e) (g, r) = subst (IsLawful s) (sym e) (_, filling.fills_died s w n v g r j x m b mine kind k)

fill_child : Keeps FillChild
fill_child s w n v after (j, x, m, b, mine, kind, t, c, l, e) (g, r) = subst (IsLawful s) (sym e) (_, filling.fills_child s w n v g r j x m b mine kind t c l)

link_first : Keeps LinkFirst
link_first s w n v after (j, x, m, b, k, mine, kind, died, name0, name1, lead, kids, histories, place, mate, q, how, e) (g, r) = subst (IsLawful s) (sym e) (_, first.links s w n v g r j x m b k mine kind died name0 name1 lead kids histories place mate q how)

link_second : Keeps LinkSecond
link_second s w n v after (j, x, y, b, l, mine, kind, f1, f2, e) (g, r) = subst (IsLawful s) (sym e) (_, second.links_second s w n v g r j x y b l mine kind f1 f2)

publish_step : Keeps PublishStep
publish_step s w n v after (j, x, m, b, mine, kind, known, right, e) (g, r) = subst (IsLawful s) (sym e) (_, publishing.publishes s w n v g r j x m b mine kind known right)

retire_step : Keeps RetireStep
retire_step s w n v after (j, b, k, given, kind, listed, zero_, leaves, mates, names, right, e) (g, r) = subst (IsLawful s) (sym e) (_, (retiring.retires s w n v g r j b k given kind listed zero_ leaves mates names right).1)

retired_step : Keeps RetiredStep
retired_step s w n v after (j, kind, second_, b, k, given, dead, names, right, e) (g, r) = subst (IsLawful s) (sym e) (_, half.opens_given s w n v g r j kind second_ b k given dead names right)

work_top : Keeps WorkTop
work_top s w n v after (j, kind, first_, x, low, e) (g, r) = subst (IsLawful s) (sym e) (_, walks.notes_top s w n v g r j kind first_ x low)

work_ends : Keeps WorkEnds
work_ends s w n v after (j, kind, x, k, l, next, stop, e) (g, r) = subst (IsLawful s) (sym e) (_, walks.ends s w n v g r j kind x k l next stop)

work_finds : Keeps WorkFinds
work_finds s w n v after (j, kind, first_, x, k, b, t, at, p, e) (g, r) = subst (IsLawful s) (sym e) (_, walks.finds_first s w n v g r j kind first_ x k b t at p)

work_had : Keeps WorkHad
work_had s w n v after (j, kind, x, k, b, t, at, second_, p, low, e) (g, r) = subst (IsLawful s) (sym e) (_, walks.finds_last s w n v g r j kind x k b t at second_ p low)

work_both : Keeps WorkBoth
work_both s w n v after (j, kind, second_, b, k, i, t, had, is, e) (g, r) = subst (IsLawful s) (sym e) (_, walks.finds_both s w n v g r j kind b k i t had is)

work_passes : Keeps WorkPasses
work_passes s w n v after (j, kind, x, k, b, t, at, not, grown, how, e) (g, r) = subst (IsLawful s) (sym e) (_, walks.passes s w n v g r j kind x k b t at not grown how)

work_gives : Keeps WorkGives
work_gives s w n v after (j, kind, second_, b, k, lead, had, e) (g, r) = subst (IsLawful s) (sym e) (_, half.gives s w n v g r j kind second_ b k lead had)

work_dead : Keeps WorkDead
work_dead s w n v after (j, kind, second_, b, k, had, dead, e) (g, r) = subst (IsLawful s) (sym e) (_, half.opens_dead s w n v g r j kind second_ b k had dead)

work_open : Keeps WorkOpen
work_open s w n v after (j, kind, second_, x, k, mine, open_, grown, how, e) (g, r) = subst (IsLawful s) (sym e) (_, half.opens_head s w n v g r j kind second_ x k mine open_ grown how)

load_head : Keeps LoadHead
load_head s w n v after (j, x, e) (g, r) = subst (IsLawful s) (sym e) (_, loads.loads_head s w n v g r j x)

load_history : Keeps LoadHistory
load_history s w n v after (j, x, e) (g, r) = subst (IsLawful s) (sym e) (_, loads.loads_history s w n v g r j x)

load_born : Keeps LoadBorn
load_born s w n v after (j, x, e) (g, r) = subst (IsLawful s) (sym e) (_, loads.loads_born s w n v g r j x)

load_died : Keeps LoadDied
load_died s w n v after (j, x, e) (g, r) = subst (IsLawful s) (sym e) (_, loads.loads_died s w n v g r j x)

load_name : Keeps LoadName
load_name s w n v after (j, x, e) (g, r) = subst (IsLawful s) (sym e) (_, loads.loads_name s w n v g r j x)

load_row : Keeps LoadRow
load_row s w n v after (j, x, e) (g, r) = subst (IsLawful s) (sym e) (_, loads.loads_row s w n v g r j x)

load_round : Keeps LoadRound
load_round s w n v after (j, kind, ready, how, e) (g, r) = subst (IsLawful s) (sym e) (_, pinning.shows_round s w n v g r j kind ready how)

pin_step : Keeps PinStep
pin_step s w n v after (j, kind, none, ready, e) (g, r) = subst (IsLawful s) (sym e) (_, pinning.pins s w n v g r j kind none ready)

unpin_step : Keeps UnpinStep
unpin_step s w n v after (j, q, kind, had, e) (g, r) = subst (IsLawful s) (sym e) (_, pinning.unpins s w n v g r j q kind had)

read_ends : Keeps ReadEnds
read_ends s w n v after (j, q, kind, pinned, x, k, l, next, stop, e) (g, r) = subst (IsLawful s) (sym e) (_, pinning.ends s w n v g r j q kind pinned x k l next stop)

read_finds : Keeps ReadFinds
read_finds s w n v after (j, q, kind, pinned, x, k, b, t, at, p, low, e) (g, r) = subst (IsLawful s) (sym e) (_, pinning.finds_it s w n v g r j q kind pinned x k b t at p low)

read_passes : Keeps ReadPasses
read_passes s w n v after (j, q, kind, pinned, x, k, b, t, at, not, e) (g, r) = subst (IsLawful s) (sym e) (_, pinning.passes s w n v g r j q kind pinned x k b t at not)

note_drained : Keeps NoteDrained
note_drained s w n v after (q, k, left, shown, e) (g, r) = subst (IsLawful s) (sym e) (_, loads.notes_drained s w n v g r q k left shown)

load_cursor : Keeps LoadCursor
load_cursor s w n v after (out, e) (g, r) = subst (IsLawful s) (sym e) (_, loads.loads_cursor s w n v g r out)

load_free : Keeps LoadFree
load_free s w n v after e (g, r) = subst (IsLawful s) (sym e) (_, loads.loads_free s w n v g r)

note_free : Keeps NoteFree
note_free s w n v after (i, b, home, low, high, row, e) (g, r) = subst (IsLawful s) (sym e) (_, loads.notes_free s w n v g r i b home low high row)

load_released : Keeps LoadReleased
load_released s w n v after e (g, r) = subst (IsLawful s) (sym e) (_, loads.finds_released s w n v g r)

note_quiet : Keeps NoteQuiet
note_quiet s w n v after (same, e) (g, r) = subst (IsLawful s) (sym e) (_, loads.finds_quiet s w n v g r same)

note_places : Keeps NotePlaces
note_places s w n v after (b, x, m, mine, e) (g, r) = subst (IsLawful s) (sym e) (_, loads.notes_placed s w n v g r b x m mine)

split_step : Keeps SplitStep
split_step s w n v after (kind, workers, readers, which, number, lone, may, notes, told, e) (g, r) = subst (IsLawful s) (sym e) (_, splitting.splits s w n v g r kind workers readers which number lone may notes told)

join_worker : Keeps JoinWorker
join_worker s w n v after (j, far, kind, left, one, e) (g, r) = subst (IsLawful s) (sym e) (_, workers.joins s w n v g r j far kind left one)

join_reader : Keeps JoinReader
join_reader s w n v after (j, far, kind, none, left, early, one, which, e) (g, r) = subst (IsLawful s) (sym e) (_, empty.empties s w n _ g (readers.leaves s w n v g r j far kind none left early one which) j far (update_same v.kind j Vacant))

begin_step : Keeps BeginStep
begin_step s w n v after (plan, names, last, aim, room, zero_, cursor, e) (g, r) = subst (IsLawful s) (sym e) (_, phases.begins s w n v g r plan names last aim room zero_ cursor)

plan_step : Keeps PlanStep
plan_step s w n v after (retire, known, one, home, lives, e) (g, r) = subst (IsLawful s) (sym e) (_, phases.plans s w n v g r retire known one home lives)

close_step : Keeps CloseStep
close_step s w n v after (gone, two, home, e) (g, r) = subst (IsLawful s) (sym e) (_, phases.closes s w n v g r gone two home)

refuse_step : Keeps RefuseStep
refuse_step s w n v after (one, home, e) (g, r) = subst (IsLawful s) (sym e) (_, phases.refuses s w n v g r one home)

restore_step : Keeps RestoreStep
restore_step s w n v after (four, none, e) (g, r) = subst (IsLawful s) (sym e) (_, phases.restores s w n v g r four none)

advance_step : Keeps AdvanceStep
advance_step s w n v after (forest, of, all, three, none, shown, e) (g, r) = subst (IsLawful s) (sym e) (_, phases.advances s w n v g r forest of all three none shown)

stamp_step : Keeps StampStep
stamp_step s w n v after (three, x, b, y, m, t, known, fair, side, f1, f2, e) (g, r) = subst (IsLawful s) (sym e) (_, back.stamps_head s w n v g r ((λ e. cc), λ e. cc) three x b y m t known fair side f1 f2)

unclaim_step : Keeps UnclaimStep
unclaim_step s w n v after (quiet, late, x, m, p, mine, lives, dead, e) (g, r) = subst (IsLawful s) (sym e) (_, back.unclaims s w n v g r quiet late x m p mine (λ b u. lives b (block_uses p b u)) dead)

cut_link : Keeps CutLink
cut_link s w n v after (zero_, x, b, last, y, m, t, l, f1, f2, f3, p, c, known, fair, side, e) (g, r) = subst (IsLawful s) (sym e) (_, sweeping.cuts_head s w n v g r zero_ x b last y m t l f1 f2 f3 p c known fair side)

cut_history : Keeps CutHistory
cut_history s w n v after (zero_, a, z, i, x, b, last, y, m, u, t, l, f1, f2, f3, p, c, from, stood, known, fair, side, e) (g, r) = subst (IsLawful s) (sym e) (_, sweeping.cuts_history s w n v g r zero_ a z i x b last y m u t l f1 f2 f3 p c from stood known fair side)

free_step : Keeps FreeStep
free_step s w n v after (zero_, gone, hand, rolled_back, kept, placed, drained, hands, rests, keeps, stays, e) (g, r) = subst (IsLawful s) (sym e) (_, sweeping.frees_all s w n v g r zero_ gone hand rolled_back kept placed drained hands rests keeps stays)

zero_step : Keeps ZeroStep
zero_step s w n v after (zero_, b, free, e) (g, r) = subst (IsLawful s) (sym e) (_, sweeping.zeroes s w n v g r zero_ b free)

stop_step : Keeps StopStep
stop_step s w n v after (zero_, k, c, free, cursor, none, e) (g, r) = subst (IsLawful s) (sym e) (_, sweeping.stops s w n v g r zero_ k c free cursor none)

rewind_step : Keeps RewindStep
rewind_step s w n v after (zero_, stopped, e) (g, r) = subst (IsLawful s) (sym e) (_, sweeping.rewinds s w n v g r zero_ stopped)

row_step : Keeps RowStep
row_step s w n v after (zero_, i, b, stopped, out, e) (g, r) = subst (IsLawful s) (sym e) (_, sweeping.lays s w n v g r zero_ i b stopped out)

open_step : Keeps OpenStep
open_step s w n v after (zero_, k, hand, stopped, rewound, below, rows, one, left, e) (g, r) = subst (IsLawful s) (sym e) (_, sweeping.opens_rows s w n v g r zero_ k hand stopped rewound below rows one left)

unbear_step : Keeps UnbearStep
unbear_step s w n v after (four, x, m, b, mine, e) (g, r) = subst (IsLawful s) (sym e) (_, back.unborns s w n v g r ((λ e. cc), λ e. cc) four x m b mine)

unlink_second : Keeps UnlinkSecond
unlink_second s w n v after (four, x, y, b, l, mine, f, e) (g, r) = subst (IsLawful s) (sym e) (_, back.unlinks_second s w n v g r ((λ e. cc), λ e. cc) four x y b l mine f)

unlink_first : Keeps UnlinkFirst
unlink_first s w n v after (four, x, m, b, l, p, mine, how, f, e) (g, r) = subst (IsLawful s) (sym e) (_, back.unlinks_first s w n v g r ((λ e. cc), λ e. cc) four x m b l p mine how f)

bury_step : Keeps BuryStep
bury_step s w n v after (quiet, b, known, e) (g, r) = subst (IsLawful s) (sym e) (_, back.buries s w n v g r quiet b known)

undraw_step : Keeps UndrawStep
undraw_step s w n v after (four, x, m, b, mine, e) (g, r) = subst (IsLawful s) (sym e) (_, back.undraws s w n v g r ((λ e. cc), λ e. cc) four x m b mine)

-- a member of the block that a chain word of a place names is in the place's chain
in_chain : (s : Setup) (w : Words) (n : ℕ) (v : Views) (g : Ghost) → Rule s w n v g → (x b : ℕ) (l : Node) → IsHead w.round w.died g.life x l → l.block ≡ b + 1 → (t : Bool) × (chained (g.life b) t ≡ x + 1)
in_chain s w n v g r x b l head is = named (λ _. Unit {0}) (Went w.round w.died v.kind v.work v.read) s.elements w.round w.head w.history w.born w.died g.life r.chains x b l head is

pub next_named : NextNamed
next_named s w n v (g, r) j x k b l is = (
  (λ kind next. let f = walks.leads s w n v g r j kind x k l next in let c = in_chain s w n v g r x b l f.0 is in (c.0, walks.next_named s w n v g r j kind x k l next b c.0 is c.1)),
  λ q kind pinned next. let f = pinning.leads s w n v g r j q kind pinned x k l next in let c = in_chain s w n v g r x b l f.0 is in (c.0, pinning.next_named s w n v g r j q kind pinned x k l next b c.0 is c.1),
)

pub steps_keep : StepsKeep
steps_keep s a b (ByClaimStep h) lawful = claim_step s a.words a.seats a.views b h lawful
steps_keep s a b (ByDrawStep h) lawful = draw_step s a.words a.seats a.views b h lawful
steps_keep s a b (ByFullStep h) lawful = full_step s a.words a.seats a.views b h lawful
steps_keep s a b (ByFillHistory h) lawful = fill_history s a.words a.seats a.views b h lawful
steps_keep s a b (ByFillName h) lawful = fill_name s a.words a.seats a.views b h lawful
steps_keep s a b (ByFillDied h) lawful = fill_died s a.words a.seats a.views b h lawful
steps_keep s a b (ByFillChild h) lawful = fill_child s a.words a.seats a.views b h lawful
steps_keep s a b (ByLinkFirst h) lawful = link_first s a.words a.seats a.views b h lawful
steps_keep s a b (ByLinkSecond h) lawful = link_second s a.words a.seats a.views b h lawful
steps_keep s a b (ByPublishStep h) lawful = publish_step s a.words a.seats a.views b h lawful
steps_keep s a b (ByRetireStep h) lawful = retire_step s a.words a.seats a.views b h lawful
steps_keep s a b (ByRetiredStep h) lawful = retired_step s a.words a.seats a.views b h lawful
steps_keep s a b (ByWorkTop h) lawful = work_top s a.words a.seats a.views b h lawful
steps_keep s a b (ByWorkEnds h) lawful = work_ends s a.words a.seats a.views b h lawful
steps_keep s a b (ByWorkGoes h) lawful = work_goes s a.words a.seats a.views b h lawful
steps_keep s a b (ByWorkFinds h) lawful = work_finds s a.words a.seats a.views b h lawful
steps_keep s a b (ByWorkHad h) lawful = work_had s a.words a.seats a.views b h lawful
steps_keep s a b (ByWorkBoth h) lawful = work_both s a.words a.seats a.views b h lawful
steps_keep s a b (ByWorkPasses h) lawful = work_passes s a.words a.seats a.views b h lawful
steps_keep s a b (ByWorkGives h) lawful = work_gives s a.words a.seats a.views b h lawful
steps_keep s a b (ByWorkDead h) lawful = work_dead s a.words a.seats a.views b h lawful
steps_keep s a b (ByWorkOpen h) lawful = work_open s a.words a.seats a.views b h lawful
steps_keep s a b (ByLoadHead h) lawful = load_head s a.words a.seats a.views b h lawful
steps_keep s a b (ByLoadHistory h) lawful = load_history s a.words a.seats a.views b h lawful
steps_keep s a b (ByLoadBorn h) lawful = load_born s a.words a.seats a.views b h lawful
steps_keep s a b (ByLoadDied h) lawful = load_died s a.words a.seats a.views b h lawful
steps_keep s a b (ByLoadName h) lawful = load_name s a.words a.seats a.views b h lawful
steps_keep s a b (ByLoadRow h) lawful = load_row s a.words a.seats a.views b h lawful
steps_keep s a b (ByLoadRound h) lawful = load_round s a.words a.seats a.views b h lawful
steps_keep s a b (ByPinStep h) lawful = pin_step s a.words a.seats a.views b h lawful
steps_keep s a b (ByUnpinStep h) lawful = unpin_step s a.words a.seats a.views b h lawful
steps_keep s a b (ByReadEnds h) lawful = read_ends s a.words a.seats a.views b h lawful
steps_keep s a b (ByReadGoes h) lawful = read_goes s a.words a.seats a.views b h lawful
steps_keep s a b (ByReadFinds h) lawful = read_finds s a.words a.seats a.views b h lawful
steps_keep s a b (ByReadPasses h) lawful = read_passes s a.words a.seats a.views b h lawful
steps_keep s a b (ByNoteDrained h) lawful = note_drained s a.words a.seats a.views b h lawful
steps_keep s a b (ByLoadCursor h) lawful = load_cursor s a.words a.seats a.views b h lawful
steps_keep s a b (ByLoadFree h) lawful = load_free s a.words a.seats a.views b h lawful
steps_keep s a b (ByNoteFree h) lawful = note_free s a.words a.seats a.views b h lawful
steps_keep s a b (ByLoadReleased h) lawful = load_released s a.words a.seats a.views b h lawful
steps_keep s a b (ByNoteQuiet h) lawful = note_quiet s a.words a.seats a.views b h lawful
steps_keep s a b (ByNotePlaces h) lawful = note_places s a.words a.seats a.views b h lawful
steps_keep s a b (BySplitStep h) lawful = split_step s a.words a.seats a.views b h lawful
steps_keep s a b (ByJoinWorker h) lawful = join_worker s a.words a.seats a.views b h lawful
steps_keep s a b (ByJoinReader h) lawful = join_reader s a.words a.seats a.views b h lawful
steps_keep s a b (ByBeginStep h) lawful = begin_step s a.words a.seats a.views b h lawful
steps_keep s a b (ByPlanStep h) lawful = plan_step s a.words a.seats a.views b h lawful
steps_keep s a b (ByCloseStep h) lawful = close_step s a.words a.seats a.views b h lawful
steps_keep s a b (ByRefuseStep h) lawful = refuse_step s a.words a.seats a.views b h lawful
steps_keep s a b (ByRestoreStep h) lawful = restore_step s a.words a.seats a.views b h lawful
steps_keep s a b (ByAdvanceStep h) lawful = advance_step s a.words a.seats a.views b h lawful
steps_keep s a b (ByStampStep h) lawful = stamp_step s a.words a.seats a.views b h lawful
steps_keep s a b (ByUnclaimStep h) lawful = unclaim_step s a.words a.seats a.views b h lawful
steps_keep s a b (ByCutLink h) lawful = cut_link s a.words a.seats a.views b h lawful
steps_keep s a b (ByCutHistory h) lawful = cut_history s a.words a.seats a.views b h lawful
steps_keep s a b (ByFreeStep h) lawful = free_step s a.words a.seats a.views b h lawful
steps_keep s a b (ByZeroStep h) lawful = zero_step s a.words a.seats a.views b h lawful
steps_keep s a b (ByStopStep h) lawful = stop_step s a.words a.seats a.views b h lawful
steps_keep s a b (ByRewindStep h) lawful = rewind_step s a.words a.seats a.views b h lawful
steps_keep s a b (ByRowStep h) lawful = row_step s a.words a.seats a.views b h lawful
steps_keep s a b (ByOpenStep h) lawful = open_step s a.words a.seats a.views b h lawful
steps_keep s a b (ByUnbearStep h) lawful = unbear_step s a.words a.seats a.views b h lawful
steps_keep s a b (ByUnlinkSecond h) lawful = unlink_second s a.words a.seats a.views b h lawful
steps_keep s a b (ByUnlinkFirst h) lawful = unlink_first s a.words a.seats a.views b h lawful
steps_keep s a b (ByBuryStep h) lawful = bury_step s a.words a.seats a.views b h lawful
steps_keep s a b (ByUndrawStep h) lawful = undraw_step s a.words a.seats a.views b h lawful
