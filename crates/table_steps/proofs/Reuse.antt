-- No step reuses a block to which a walk goes.
use Rattle.std.proofs.Common.{◌⊎◌, ◌≡◌, ℕ, ◌+◌, ◌<◌, ◌≤◌, List, [], ◌∷◌, ◌++◌, refl, sym, ap, ◌∙◌, subst, inl, inr, ⊎_elim, arith}
use mathlib.Core.Logic.{dite}
use native.Mathlib.Decide.{ℕ_discrete}
use Rattle.table_words.specs.Claims.{Progress, Claimed, Failed, Drawn, Half, Whole, Living, Claim, claim, moved_on, ended}
use Rattle.table_words.specs.Entries.{HasEntry, Noted}
use Rattle.table_words.specs.Functions.{update}
use Rattle.table_words.specs.Places.{member_of}
use Rattle.table_words.specs.Setup.{Setup, setup_of}
use Rattle.table_words.specs.Words.{Node, node, Words}
use Rattle.table_words.specs.Views.{Views, Resting}
use Rattle.table_words.proofs.Entries.{entry_of_both}
use Rattle.table_words.proofs.Functions.{update_cases, update_other}
use Rattle.table_words.proofs.PlaceNumbers.{member_one}
use Rattle.table_state.specs.Bisections.{MayRead}
use Rattle.table_reading.specs.Reading.{GoesTo}
use Rattle.table_steps.specs.Reuse.{Spares, StepsSpare}
use Rattle.table_state.specs.Rule.{Lawful}
use Rattle.table_steps.specs.States.{StepKind, State}
use Rattle.table_steps.specs.WorkSteps.{ClaimStep, DrawStep, FullStep, FillHistory, FillName, FillDied, FillChild, LinkFirst, LinkSecond, PublishStep, RetireStep, RetiredStep}
use Rattle.table_steps.specs.WalkSteps.{WorkTop, WorkEnds, WorkGoes, WorkFinds, WorkHad, WorkBoth, WorkPasses, WorkGives, WorkDead, WorkOpen, LoadHead, LoadHistory, LoadBorn, LoadDied, LoadName, LoadRow}
use Rattle.table_steps.specs.PinSteps.{LoadRound, PinStep, UnpinStep, ReadEnds, ReadGoes, ReadFinds, ReadPasses}
use Rattle.table_steps.specs.OwnerSteps.{NoteDrained, LoadCursor, LoadFree, NoteFree, LoadReleased, NoteQuiet, NotePlaces, SplitStep, JoinWorker, JoinReader, BeginStep, PlanStep, CloseStep, RefuseStep, RestoreStep, AdvanceStep}
use Rattle.table_steps.specs.SweepSteps.{StampStep, UnclaimStep, CutLink, CutHistory, FreeStep, ZeroStep, StopStep, RewindStep, RowStep, OpenStep, UnbearStep, UnlinkSecond, UnlinkFirst, BuryStep, UndrawStep}
use Rattle.table_steps.specs.SweepSteps.{IsDrained}
use Rattle.table_steps.specs.Steps.{Step, ByClaimStep, ByDrawStep, ByFullStep, ByFillHistory, ByFillName, ByFillDied, ByFillChild, ByLinkFirst, ByLinkSecond, ByPublishStep, ByRetireStep, ByRetiredStep, ByWorkTop, ByWorkEnds, ByWorkGoes, ByWorkFinds, ByWorkHad, ByWorkBoth, ByWorkPasses, ByWorkGives, ByWorkDead, ByWorkOpen, ByLoadHead, ByLoadHistory, ByLoadBorn, ByLoadDied, ByLoadName, ByLoadRow, ByLoadRound, ByPinStep, ByUnpinStep, ByReadEnds, ByReadGoes, ByReadFinds, ByReadPasses, ByNoteDrained, ByLoadCursor, ByLoadFree, ByNoteFree, ByLoadReleased, ByNoteQuiet, ByNotePlaces, BySplitStep, ByJoinWorker, ByJoinReader, ByBeginStep, ByPlanStep, ByCloseStep, ByRefuseStep, ByRestoreStep, ByAdvanceStep, ByStampStep, ByUnclaimStep, ByCutLink, ByCutHistory, ByFreeStep, ByZeroStep, ByStopStep, ByRewindStep, ByRowStep, ByOpenStep, ByUnbearStep, ByUnlinkSecond, ByUnlinkFirst, ByBuryStep, ByUndrawStep}
use Rattle.table_state.proofs.HeldClaims.{moved_on_has, ended_has}
use Rattle.table_state.proofs.Lawful.{drained_rounds}
use Rattle.table_reading.proofs.ReadingLaws.{reached_stays}
use Rattle.table_state.proofs.SeatLaws.{owner_words}
use Rattle.table_state.specs.Owner.{InRows}
use Rattle.table_state.proofs.Across.{no_early}

-- none of the claims has drawn the block
abbrev None : ℕ → List Claim → Type 0
None c cs = (x m : ℕ) → HasEntry cs (claim x m (Drawn c)) → ⊥

-- so a kind of step spares a block that is in no free row, not free in the owner's hand or stock, and of no claim that has drawn it
abbrev Spared : StepKind → Type 0
Spared K = (s : Setup) (w : Words) (n : ℕ) (v : Views) (after : State) → K s w n v after → Lawful s w n v → (q c : ℕ) → MayRead w.round v.ruling.phase v.read q → ((i : ℕ) → w.cursor ≤ i → i < w.free → w.row i ≡ c → ⊥) → (HasEntry v.ruling.hand c ⊎ InRows v.ruling.low v.ruling.high w.row c → ⊥) → ((j : ℕ) → None c (v.claims j)) → Spares q c w after

claimed_not : (c : ℕ) → Claimed ≡ Drawn c → ⊥
claimed_not c e = cc

failed_not : (c : ℕ) → Failed ≡ Drawn c → ⊥
failed_not c e = cc

half_not : (b c : ℕ) → Half b ≡ Drawn c → ⊥
half_not b c e = cc

whole_not : (b c : ℕ) → Whole b ≡ Drawn c → ⊥
whole_not b c e = cc

living_not : (b c : ℕ) → Living b ≡ Drawn c → ⊥
living_not b c e = cc

drawn_one : {b c : ℕ} → Drawn b ≡ Drawn c → b ≡ c
drawn_one e = cc

moved : (cs : List Claim) (x : ℕ) (q : Progress) (c : ℕ) → (q ≡ Drawn c → ⊥) → None c cs → None c (moved_on cs x q)
moved cs x q c not none y m h = ⊎_elim (λ t. not (sym t.1)) (λ t. none y m t.1) (moved_on_has cs x q y m (Drawn c) h)

-- a walk at a round that may be read goes to no block of which the rounds are drained
passed : (s : Setup) (w : Words) (n : ℕ) (v : Views) → Lawful s w n v → (q : ℕ) → MayRead w.round v.ruling.phase v.read q → (e : ℕ) → 0 < e → e ≤ w.round → IsDrained v e → (b i : ℕ) → GoesTo q (node b e) i → ⊥
passed s w n v k q may e p l drained b i go = ⊎_elim (λ z. omega arith)
    (λ low. ⊎_elim
    (λ a. ⊎_elim (λ y. ⊎_elim (λ z. omega arith) (λ t. let z = no_early s w n v k.0 k.1 a t.0 q t.1 in omega arith) y) (λ y. let z = y.0 in omega arith) may)
    (λ f. let c = f q low in let g = (drained_rounds s w n v k q 0 c).0 in ⊎_elim (λ y. ⊎_elim (λ z. omega arith) (λ t. (drained_rounds s w n v k q t.0 c).1 t.1) y) (λ y. let z = y.0 in omega arith) may) drained) go.1

-- a block that is in chains between rounds was retired in a finished round, if at all
retired_low : (s : Setup) (w : Words) (n : ℕ) (v : Views) → Lawful s w n v → v.ruling.phase ≡ Resting → (b e y m : ℕ) → Noted (v.owned 0).died b e → HasEntry v.ruling.placed (b, y, m) → (HasEntry v.ruling.rolled_back b → ⊥) → e ≤ w.round
retired_low s w n v (g, r) rest b e y m f known fair = let d = (r.owned 0).died_is b e f (inl (refl, r.rules.halves (λ z. cc) (λ z. cc))) in
    let c = r.names.calm b y m ((λ z. cc), λ z. cc) (⊎_elim (λ a. a) (λ a. absurd (fair (r.note.all b y m a))) (r.note.placed b y m known)) in omega arith

claim_step : Spared ClaimStep
claim_step s w n v after (j, x, m, k_, kind, bit, lead, absent, aimed, here, mate, e) k q0 c may rows hand drawn = subst (Spares q0 c w) (sym e) (λ _. refl, λ _. inl refl, rows, update_cases (λ _ cs. None c cs) v.claims j (claim x m Claimed ∷ v.claims j) (λ y i h. ⊎_elim (λ z. claimed_not c (ap (λ (k : Claim). k.progress) (sym z))) (λ z. drawn j y i z) h) (λ i _. drawn i))

draw_step : Spared DrawStep
draw_step s w n v after (j, x, m, mine, kind, low, e) k q0 c may rows hand drawn = subst (Spares q0 c w) (sym e) (λ _. refl, λ _. inl refl, λ i a. rows i (omega arith), update_cases (λ _ cs. None c cs) v.claims j (moved_on (v.claims j) x (Drawn (w.row w.cursor))) (moved (v.claims j) x (Drawn (w.row w.cursor)) c (λ z. rows w.cursor (omega arith) low (drawn_one z)) (drawn j)) (λ i _. drawn i))

full_step : Spared FullStep
full_step s w n v after (j, x, m, mine, kind, low, e) k q0 c may rows hand drawn = subst (Spares q0 c w) (sym e) (λ _. refl, λ _. inl refl, λ i a. rows i (omega arith), update_cases (λ _ cs. None c cs) v.claims j (moved_on (v.claims j) x Failed) (moved (v.claims j) x Failed c (λ z. failed_not c z) (drawn j)) (λ i _. drawn i))

fill_history : Spared FillHistory
fill_history s w n v after (j, x, m, b, mine, kind, t, l, e) k q0 c may rows hand drawn = subst (Spares q0 c w) (sym e) (λ _. refl, λ u. inl (update_other w.history (member_of b t) (member_of c u) l (λ z. drawn j x m (subst (λ (i : ℕ). HasEntry (v.claims j) (claim x m (Drawn i))) (sym (member_one c b u t z).0) mine))), rows, drawn)

fill_name : Spared FillName
fill_name s w n v after (j, x, m, b, mine, kind, t, k, e) law q0 c may rows hand drawn = subst (Spares q0 c w) (sym e) (λ u. update_other w.name (member_of b t) (member_of c u) k (λ z. drawn j x m (subst (λ (i : ℕ). HasEntry (v.claims j) (claim x m (Drawn i))) (sym (member_one c b u t z).0) mine)), λ _. inl refl, rows, drawn)

fill_died : Spared FillDied
fill_died s w n v after (j, x, m, b, mine, kind, k_, e) k q0 c may rows hand drawn = subst (Spares q0 c w) (sym e) (λ _. refl, λ _. inl refl, rows, drawn)

fill_child : Spared FillChild
fill_child s w n v after (j, x, m, b, mine, kind, t, side_, l, e) k q0 c may rows hand drawn = subst (Spares q0 c w) (sym e) (λ _. refl, λ _. inl refl, rows, drawn)

link_first : Spared LinkFirst
link_first s w n v after (j, x, m, b, k_, mine, kind, died, name0, name1, lead, kids, histories, place, mate, q, how, e) k q0 c may rows hand drawn = subst (Spares q0 c w) (sym e) (λ _. refl, λ _. inl refl, rows, update_cases (λ _ cs. None c cs) v.claims j (moved_on (v.claims j) x q) (moved (v.claims j) x q c (λ z. ⊎_elim (λ y. half_not b c (sym y ∙ z)) (λ y. whole_not b c (sym y.0 ∙ z)) how) (drawn j)) (λ i _. drawn i))

link_second : Spared LinkSecond
link_second s w n v after (j, x, y, b, l, mine, kind, f1, f2, e) k q0 c may rows hand drawn = subst (Spares q0 c w) (sym e) (λ _. refl, λ _. inl refl, rows, update_cases (λ _ cs. None c cs) v.claims j (moved_on (v.claims j) x (Whole b)) (moved (v.claims j) x (Whole b) c (λ z. whole_not b c z) (drawn j)) (λ i _. drawn i))

publish_step : Spared PublishStep
publish_step s w n v after (j, x, m, b, mine, kind, known, right, e) k q0 c may rows hand drawn = subst (Spares q0 c w) (sym e) (λ _. refl, λ _. inl refl, rows, update_cases (λ _ cs. None c cs) v.claims j (moved_on (v.claims j) x (Living b)) (moved (v.claims j) x (Living b) c (λ z. living_not b c z) (drawn j)) (λ i _. drawn i))

retire_step : Spared RetireStep
retire_step s w n v after (j, b, k_, given, kind, listed, zero_, leaves, mates, names, right, e) k q0 c may rows hand drawn = subst (Spares q0 c w) (sym e) (λ _. refl, λ _. inl refl, rows, drawn)

retired_step : Spared RetiredStep
retired_step s w n v after (j, kind, second_, b, k_, given, dead, names, right, e) k q0 c may rows hand drawn = subst (Spares q0 c w) (sym e) (λ _. refl, λ _. inl refl, rows, drawn)

work_top : Spared WorkTop
work_top s w n v after (j, kind, first_, x, low, e) k q0 c may rows hand drawn = subst (Spares q0 c w) (sym e) (λ _. refl, λ _. inl refl, rows, drawn)

work_ends : Spared WorkEnds
work_ends s w n v after (j, kind, x, k_, l, next, stop, e) k q0 c may rows hand drawn = subst (Spares q0 c w) (sym e) (λ _. refl, λ _. inl refl, rows, drawn)

work_goes : Spared WorkGoes
work_goes s w n v after (j, kind, x, k_, b, l, next, is, may_, t, named, e) k q0 c may rows hand drawn = subst (Spares q0 c w) (sym e) (λ _. refl, λ _. inl refl, rows, drawn)

work_finds : Spared WorkFinds
work_finds s w n v after (j, kind, first_, x, k_, b, t, at, p, e) k q0 c may rows hand drawn = subst (Spares q0 c w) (sym e) (λ _. refl, λ _. inl refl, rows, drawn)

work_had : Spared WorkHad
work_had s w n v after (j, kind, x, k_, b, t, at, second_, p, low, e) k q0 c may rows hand drawn = subst (Spares q0 c w) (sym e) (λ _. refl, λ _. inl refl, rows, drawn)

work_both : Spared WorkBoth
work_both s w n v after (j, kind, second_, b, k_, i, t, had, is, e) k q0 c may rows hand drawn = subst (Spares q0 c w) (sym e) (λ _. refl, λ _. inl refl, rows, drawn)

work_passes : Spared WorkPasses
work_passes s w n v after (j, kind, x, k_, b, t, at, not, grown, how, e) k q0 c may rows hand drawn = subst (Spares q0 c w) (sym e) (λ _. refl, λ _. inl refl, rows, drawn)

work_gives : Spared WorkGives
work_gives s w n v after (j, kind, second_, b, k_, lead, had, e) k q0 c may rows hand drawn = subst (Spares q0 c w) (sym e) (λ _. refl, λ _. inl refl, rows, drawn)

work_dead : Spared WorkDead
work_dead s w n v after (j, kind, second_, b, k_, had, dead, e) k q0 c may rows hand drawn = subst (Spares q0 c w) (sym e) (λ _. refl, λ _. inl refl, rows, drawn)

work_open : Spared WorkOpen
work_open s w n v after (j, kind, second_, x, k_, mine, open_, grown, how, e) k q0 c may rows hand drawn = subst (Spares q0 c w) (sym e) (λ _. refl, λ _. inl refl, rows, drawn)

load_head : Spared LoadHead
load_head s w n v after (j, x, e) k q0 c may rows hand drawn = subst (Spares q0 c w) (sym e) (λ _. refl, λ _. inl refl, rows, drawn)

load_history : Spared LoadHistory
load_history s w n v after (j, x, e) k q0 c may rows hand drawn = subst (Spares q0 c w) (sym e) (λ _. refl, λ _. inl refl, rows, drawn)

load_born : Spared LoadBorn
load_born s w n v after (j, x, e) k q0 c may rows hand drawn = subst (Spares q0 c w) (sym e) (λ _. refl, λ _. inl refl, rows, drawn)

load_died : Spared LoadDied
load_died s w n v after (j, x, e) k q0 c may rows hand drawn = subst (Spares q0 c w) (sym e) (λ _. refl, λ _. inl refl, rows, drawn)

load_name : Spared LoadName
load_name s w n v after (j, x, e) k q0 c may rows hand drawn = subst (Spares q0 c w) (sym e) (λ _. refl, λ _. inl refl, rows, drawn)

load_row : Spared LoadRow
load_row s w n v after (j, x, e) k q0 c may rows hand drawn = subst (Spares q0 c w) (sym e) (λ _. refl, λ _. inl refl, rows, drawn)

load_round : Spared LoadRound
load_round s w n v after (j, kind, ready, how, e) k q0 c may rows hand drawn = subst (Spares q0 c w) (sym e) (λ _. refl, λ _. inl refl, rows, drawn)

pin_step : Spared PinStep
pin_step s w n v after (j, kind, none, ready, e) k q0 c may rows hand drawn = subst (Spares q0 c w) (sym e) (λ _. refl, λ _. inl refl, rows, drawn)

unpin_step : Spared UnpinStep
unpin_step s w n v after (j, q_, kind, had, e) k q0 c may rows hand drawn = subst (Spares q0 c w) (sym e) (λ _. refl, λ _. inl refl, rows, drawn)

read_ends : Spared ReadEnds
read_ends s w n v after (j, q_, kind, pinned, x, k_, l, next, stop, e) k q0 c may rows hand drawn = subst (Spares q0 c w) (sym e) (λ _. refl, λ _. inl refl, rows, drawn)

read_goes : Spared ReadGoes
read_goes s w n v after (j, q_, kind, pinned, x, k_, b, l, next, is, may_, t, named, e) k q0 c may rows hand drawn = subst (Spares q0 c w) (sym e) (λ _. refl, λ _. inl refl, rows, drawn)

read_finds : Spared ReadFinds
read_finds s w n v after (j, q_, kind, pinned, x, k_, b, t, at, p, low, e) k q0 c may rows hand drawn = subst (Spares q0 c w) (sym e) (λ _. refl, λ _. inl refl, rows, drawn)

read_passes : Spared ReadPasses
read_passes s w n v after (j, q_, kind, pinned, x, k_, b, t, at, not, e) k q0 c may rows hand drawn = subst (Spares q0 c w) (sym e) (λ _. refl, λ _. inl refl, rows, drawn)

note_drained : Spared NoteDrained
note_drained s w n v after (q_, k_, left, shown, e) k q0 c may rows hand drawn = subst (Spares q0 c w) (sym e) (λ _. refl, λ _. inl refl, rows, drawn)

load_cursor : Spared LoadCursor
load_cursor s w n v after (out, e) k q0 c may rows hand drawn = subst (Spares q0 c w) (sym e) (λ _. refl, λ _. inl refl, rows, drawn)

load_free : Spared LoadFree
load_free s w n v after e k q0 c may rows hand drawn = subst (Spares q0 c w) (sym e) (λ _. refl, λ _. inl refl, rows, drawn)

note_free : Spared NoteFree
note_free s w n v after (i, b, home, low, high, row, e) k q0 c may rows hand drawn = subst (Spares q0 c w) (sym e) (λ _. refl, λ _. inl refl, rows, drawn)

load_released : Spared LoadReleased
load_released s w n v after e k q0 c may rows hand drawn = subst (Spares q0 c w) (sym e) (λ _. refl, λ _. inl refl, rows, drawn)

note_quiet : Spared NoteQuiet
note_quiet s w n v after (same, e) k q0 c may rows hand drawn = subst (Spares q0 c w) (sym e) (λ _. refl, λ _. inl refl, rows, drawn)

note_places : Spared NotePlaces
note_places s w n v after (b, x, m, mine, e) k q0 c may rows hand drawn = subst (Spares q0 c w) (sym e) (λ _. refl, λ _. inl refl, rows, drawn)

split_step : Spared SplitStep
split_step s w n v after (kind, workers, readers, which, number, lone, may_, notes, told, e) k q0 c may rows hand drawn = subst (Spares q0 c w) (sym e) (λ _. refl, λ _. inl refl, rows, update_cases (λ _ cs. None c cs) v.claims n [] (λ y i h. absurd h) (λ i _. drawn i))

join_worker : Spared JoinWorker
join_worker s w n v after (j, far, kind, left, one, e) k q0 c may rows hand drawn = subst (Spares q0 c w) (sym e) (λ _. refl, λ _. inl refl, rows, update_cases (λ _ cs. None c cs) (update v.claims 0 (v.claims 0 ++ v.claims j)) j [] (λ y i h. absurd h) (λ k _. update_cases (λ _ cs. None c cs) v.claims 0 (v.claims 0 ++ v.claims j) (λ y i h. ⊎_elim (drawn 0 y i) (drawn j y i) (entry_of_both (v.claims 0) (v.claims j) (claim y i (Drawn c)) h)) (λ i _. drawn i) k))

join_reader : Spared JoinReader
join_reader s w n v after (j, far, kind, none, left, early, one, which, e) k q0 c may rows hand drawn = subst (Spares q0 c w) (sym e) (λ _. refl, λ _. inl refl, rows, update_cases (λ _ cs. None c cs) v.claims j [] (λ y i h. absurd h) (λ i _. drawn i))

begin_step : Spared BeginStep
begin_step s w n v after (plan, names, last, aim, room, zero_, cursor, e) k q0 c may rows hand drawn = subst (Spares q0 c w) (sym e) (λ _. refl, λ _. inl refl, rows, drawn)

plan_step : Spared PlanStep
plan_step s w n v after (retire, known, one, home, lives, e) k q0 c may rows hand drawn = subst (Spares q0 c w) (sym e) (λ _. refl, λ _. inl refl, rows, drawn)

close_step : Spared CloseStep
close_step s w n v after (gone, two, home, e) k q0 c may rows hand drawn = subst (Spares q0 c w) (sym e) (λ _. refl, λ _. inl refl, rows, drawn)

refuse_step : Spared RefuseStep
refuse_step s w n v after (one, home, e) k q0 c may rows hand drawn = subst (Spares q0 c w) (sym e) (λ _. refl, λ _. inl refl, rows, drawn)

restore_step : Spared RestoreStep
restore_step s w n v after (four, none, e) k q0 c may rows hand drawn = subst (Spares q0 c w) (sym e) (λ _. refl, λ _. inl refl, rows, drawn)

advance_step : Spared AdvanceStep
advance_step s w n v after (forest, of, all, three, none, shown, e) k q0 c may rows hand drawn = subst (Spares q0 c w) (sym e) (λ _. refl, λ _. inl refl, rows, drawn)

stamp_step : Spared StampStep
stamp_step s w n v after (three, x, b, y, m, t, known, fair, side, f1, f2, e) k q0 c may rows hand drawn = subst (Spares q0 c w) (sym e) (λ _. refl, λ _. inl refl, rows, drawn)

unclaim_step : Spared UnclaimStep
unclaim_step s w n v after (quiet, late, x, m, p, mine, lives, dead, e) k q0 c may rows hand drawn = subst (Spares q0 c w) (sym e) (λ _. refl, λ _. inl refl, rows, update_cases (λ _ cs. None c cs) v.claims 0 (ended (v.claims 0) x) (λ y i h. drawn 0 y i (ended_has (v.claims 0) x y i (Drawn c) h).1) (λ i _. drawn i))

cut_link : Spared CutLink
cut_link s w n v after (zero_, x, b, e, y, m, t, l, f1, f2, f3, p, drained, known, fair, side, last) k q0 c may rows hand drawn = subst (Spares q0 c w) (sym last) (λ _. refl, λ _. inl refl, rows, drawn)

cut_history : Spared CutHistory
cut_history s w n v after (zero_, a, z, i, x, b, e, y, m, u, t, l, f1, f2, f3, p, drained, from, stood, known, fair, side, last) k q0 c may rows hand drawn = subst (Spares q0 c w) (sym last) (λ _. refl, λ o. dite (ℕ_discrete (member_of c o) (member_of a u)) (λ z. inr (λ i go. passed s w n v k q0 may e p (retired_low s w n v k zero_ b e y m f2 known fair) drained (b + 1) i (subst (λ (y : Node). GoesTo q0 y i) (ap w.history z ∙ (owner_words s w n v k (k.1.rules.halves (λ y. cc) (λ y. cc))).1 a u (node (b + 1) e) f1) go))) (λ z. inl (update_other w.history (member_of a u) (member_of c o) l z)), rows, drawn)

free_step : Spared FreeStep
free_step s w n v after (zero_, gone, hand_, rolled_back, kept, placed, drained, hands, rests, keeps, stays, e) k q0 c may rows hand drawn = subst (Spares q0 c w) (sym e) (λ _. refl, λ _. inl refl, rows, drawn)

zero_step : Spared ZeroStep
zero_step s w n v after (zero_, b, free, e) k q0 c may rows hand drawn = subst (Spares q0 c w) (sym e) (λ _. refl, λ _. inl refl, rows, drawn)

stop_step : Spared StopStep
stop_step s w n v after (zero_, k_, cc_, free, cursor, used, e) k q0 c may rows hand drawn = subst (Spares q0 c w) (sym e) (λ _. refl, λ _. inl refl, λ i a low. absurd (omega arith), drawn)

rewind_step : Spared RewindStep
rewind_step s w n v after (zero_, stopped, e) k q0 c may rows hand drawn = subst (Spares q0 c w) (sym e) (λ _. refl, λ _. inl refl, λ i a low. absurd (let z = k.1.stock.free_is 0 stopped in omega arith), drawn)

row_step : Spared RowStep
row_step s w n v after (zero_, i, b, stopped, out, e) k q0 c may rows hand drawn = subst (Spares q0 c w) (sym e) (λ _. refl, λ _. inl refl, λ i2 a low. absurd (let z = k.1.stock.free_is 0 stopped in omega arith), drawn)

open_step : Spared OpenStep
open_step s w n v after (zero_, count, hand_, stopped, rewound, below, rows2, one, left, e) k q0 c may rows hand drawn = subst (Spares q0 c w) (sym e) (λ _. refl, λ _. inl refl, λ i a low same. ⊎_elim (λ t. hand (inr (i, t.0, t.1, same))) (λ t. hand (inl (subst (HasEntry v.ruling.hand) (sym ((owner_words s w n v k (k.1.rules.halves (λ y. cc) (λ y. cc))).4 i t.0 t.1.2) ∙ same) t.2))) (rows2 i low), drawn)

unbear_step : Spared UnbearStep
unbear_step s w n v after (four, x, m, b, mine, e) k q0 c may rows hand drawn = subst (Spares q0 c w) (sym e) (λ _. refl, λ _. inl refl, rows, update_cases (λ _ cs. None c cs) v.claims 0 (moved_on (v.claims 0) x (Whole b)) (moved (v.claims 0) x (Whole b) c (λ z. whole_not b c z) (drawn 0)) (λ i _. drawn i))

unlink_second : Spared UnlinkSecond
unlink_second s w n v after (four, x, y, b, l, mine, f, e) k q0 c may rows hand drawn = subst (Spares q0 c w) (sym e) (λ _. refl, λ _. inl refl, rows, update_cases (λ _ cs. None c cs) v.claims 0 (moved_on (v.claims 0) x (Half b)) (moved (v.claims 0) x (Half b) c (λ z. half_not b c z) (drawn 0)) (λ i _. drawn i))

unlink_first : Spared UnlinkFirst
unlink_first s w n v after (four, x, m, b, l, p, mine, how, f, e) k q0 c may rows hand drawn = subst (Spares q0 c w) (sym e) (λ _. refl, λ _. inl refl, rows, update_cases (λ _ cs. None c cs) v.claims 0 (ended (v.claims 0) x) (λ y i h. drawn 0 y i (ended_has (v.claims 0) x y i (Drawn c) h).1) (λ i _. drawn i))

bury_step : Spared BuryStep
bury_step s w n v after (quiet, b, known, e) k q0 c may rows hand drawn = subst (Spares q0 c w) (sym e) (λ _. refl, λ _. inl refl, rows, drawn)

undraw_step : Spared UndrawStep
undraw_step s w n v after (four, x, m, b, mine, e) k q0 c may rows hand drawn = subst (Spares q0 c w) (sym e) (λ _. refl, λ _. inl refl, rows, update_cases (λ _ cs. None c cs) v.claims 0 (ended (v.claims 0) x) (λ y i h. drawn 0 y i (ended_has (v.claims 0) x y i (Drawn c) h).1) (λ i _. drawn i))

kinds_spare : (s : Setup) (a b : State) → Step s a b → Lawful s a.words a.seats a.views → (q c : ℕ) → MayRead a.words.round a.views.ruling.phase a.views.read q → ((i : ℕ) → a.words.cursor ≤ i → i < a.words.free → a.words.row i ≡ c → ⊥) → (HasEntry a.views.ruling.hand c ⊎ InRows a.views.ruling.low a.views.ruling.high a.words.row c → ⊥) → ((j : ℕ) → None c (a.views.claims j)) → Spares q c a.words b
kinds_spare s a b (ByClaimStep h) = claim_step s a.words a.seats a.views b h
kinds_spare s a b (ByDrawStep h) = draw_step s a.words a.seats a.views b h
kinds_spare s a b (ByFullStep h) = full_step s a.words a.seats a.views b h
kinds_spare s a b (ByFillHistory h) = fill_history s a.words a.seats a.views b h
kinds_spare s a b (ByFillName h) = fill_name s a.words a.seats a.views b h
kinds_spare s a b (ByFillDied h) = fill_died s a.words a.seats a.views b h
kinds_spare s a b (ByFillChild h) = fill_child s a.words a.seats a.views b h
kinds_spare s a b (ByLinkFirst h) = link_first s a.words a.seats a.views b h
kinds_spare s a b (ByLinkSecond h) = link_second s a.words a.seats a.views b h
kinds_spare s a b (ByPublishStep h) = publish_step s a.words a.seats a.views b h
kinds_spare s a b (ByRetireStep h) = retire_step s a.words a.seats a.views b h
kinds_spare s a b (ByRetiredStep h) = retired_step s a.words a.seats a.views b h
kinds_spare s a b (ByWorkTop h) = work_top s a.words a.seats a.views b h
kinds_spare s a b (ByWorkEnds h) = work_ends s a.words a.seats a.views b h
kinds_spare s a b (ByWorkGoes h) = work_goes s a.words a.seats a.views b h
kinds_spare s a b (ByWorkFinds h) = work_finds s a.words a.seats a.views b h
kinds_spare s a b (ByWorkHad h) = work_had s a.words a.seats a.views b h
kinds_spare s a b (ByWorkBoth h) = work_both s a.words a.seats a.views b h
kinds_spare s a b (ByWorkPasses h) = work_passes s a.words a.seats a.views b h
kinds_spare s a b (ByWorkGives h) = work_gives s a.words a.seats a.views b h
kinds_spare s a b (ByWorkDead h) = work_dead s a.words a.seats a.views b h
kinds_spare s a b (ByWorkOpen h) = work_open s a.words a.seats a.views b h
kinds_spare s a b (ByLoadHead h) = load_head s a.words a.seats a.views b h
kinds_spare s a b (ByLoadHistory h) = load_history s a.words a.seats a.views b h
kinds_spare s a b (ByLoadBorn h) = load_born s a.words a.seats a.views b h
kinds_spare s a b (ByLoadDied h) = load_died s a.words a.seats a.views b h
kinds_spare s a b (ByLoadName h) = load_name s a.words a.seats a.views b h
kinds_spare s a b (ByLoadRow h) = load_row s a.words a.seats a.views b h
kinds_spare s a b (ByLoadRound h) = load_round s a.words a.seats a.views b h
kinds_spare s a b (ByPinStep h) = pin_step s a.words a.seats a.views b h
kinds_spare s a b (ByUnpinStep h) = unpin_step s a.words a.seats a.views b h
kinds_spare s a b (ByReadEnds h) = read_ends s a.words a.seats a.views b h
kinds_spare s a b (ByReadGoes h) = read_goes s a.words a.seats a.views b h
kinds_spare s a b (ByReadFinds h) = read_finds s a.words a.seats a.views b h
kinds_spare s a b (ByReadPasses h) = read_passes s a.words a.seats a.views b h
kinds_spare s a b (ByNoteDrained h) = note_drained s a.words a.seats a.views b h
kinds_spare s a b (ByLoadCursor h) = load_cursor s a.words a.seats a.views b h
kinds_spare s a b (ByLoadFree h) = load_free s a.words a.seats a.views b h
kinds_spare s a b (ByNoteFree h) = note_free s a.words a.seats a.views b h
kinds_spare s a b (ByLoadReleased h) = load_released s a.words a.seats a.views b h
kinds_spare s a b (ByNoteQuiet h) = note_quiet s a.words a.seats a.views b h
kinds_spare s a b (ByNotePlaces h) = note_places s a.words a.seats a.views b h
kinds_spare s a b (BySplitStep h) = split_step s a.words a.seats a.views b h
kinds_spare s a b (ByJoinWorker h) = join_worker s a.words a.seats a.views b h
kinds_spare s a b (ByJoinReader h) = join_reader s a.words a.seats a.views b h
kinds_spare s a b (ByBeginStep h) = begin_step s a.words a.seats a.views b h
kinds_spare s a b (ByPlanStep h) = plan_step s a.words a.seats a.views b h
kinds_spare s a b (ByCloseStep h) = close_step s a.words a.seats a.views b h
kinds_spare s a b (ByRefuseStep h) = refuse_step s a.words a.seats a.views b h
kinds_spare s a b (ByRestoreStep h) = restore_step s a.words a.seats a.views b h
kinds_spare s a b (ByAdvanceStep h) = advance_step s a.words a.seats a.views b h
kinds_spare s a b (ByStampStep h) = stamp_step s a.words a.seats a.views b h
kinds_spare s a b (ByUnclaimStep h) = unclaim_step s a.words a.seats a.views b h
kinds_spare s a b (ByCutLink h) = cut_link s a.words a.seats a.views b h
kinds_spare s a b (ByCutHistory h) = cut_history s a.words a.seats a.views b h
kinds_spare s a b (ByFreeStep h) = free_step s a.words a.seats a.views b h
kinds_spare s a b (ByZeroStep h) = zero_step s a.words a.seats a.views b h
kinds_spare s a b (ByStopStep h) = stop_step s a.words a.seats a.views b h
kinds_spare s a b (ByRewindStep h) = rewind_step s a.words a.seats a.views b h
kinds_spare s a b (ByRowStep h) = row_step s a.words a.seats a.views b h
kinds_spare s a b (ByOpenStep h) = open_step s a.words a.seats a.views b h
kinds_spare s a b (ByUnbearStep h) = unbear_step s a.words a.seats a.views b h
kinds_spare s a b (ByUnlinkSecond h) = unlink_second s a.words a.seats a.views b h
kinds_spare s a b (ByUnlinkFirst h) = unlink_first s a.words a.seats a.views b h
kinds_spare s a b (ByBuryStep h) = bury_step s a.words a.seats a.views b h
kinds_spare s a b (ByUndrawStep h) = undraw_step s a.words a.seats a.views b h

pub steps_spare : StepsSpare
steps_spare mesh across l passes tells a b step lawful q c may reached = let f = reached_stays mesh across l passes tells a.words a.seats a.views lawful q c may reached in
    kinds_spare (setup_of mesh across l passes) a b step lawful q c may f.0 f.1 f.2
