-- From the loads and the rounds to what a run leads to.
use Rattle.std.proofs.Common.{◌≡◌, ℕ, ◌≤◌, Bool, true, false, sym, ap, subst, List, [], ◌∷◌, ⊎_elim, arith}
use Rattle.std.specs.Prelude.{Option, Some, None, Result, Ok, Err}
use Rattle.compat_check.specs.Meshes.{Mesh}
use Rattle.mark_file.specs.Meaning.{Round}
use Rattle.mesh_rounds.specs.State.{IsFirst, IsMeshRound, State}
use Rattle.adapt_words.specs.Rounds.{RunWords}
use Rattle.forest_plain.specs.declared.refusal.RoundRefusal.{RoundRefusal}
use Rattle.forest_plain.specs.declared.refusal.RoundRefusal.TheVariants.{RoundsUsedUp, NotALeaf, LevelTooDeep, PoolFull, Memory as no_memory}
use Rattle.adapt_cli.specs.FaultTexts.{Fault, round_fault}
use Rattle.mesh_rounds.specs.Texts.{IsTextOfState}
use Rattle.adapt_cli.specs.Reports.{IsOutput}
use Rattle.adapt_cli.specs.Rounds.{LeadTo, Refuses, preceded, whole}
use Rattle.adapt_cli.specs.Outcome.{RunsTo}
use Rattle.adapt_cli.specs.Stops.{IsReportedRun, IsRun, StopsBy}
use Rattle.adapt_cli.specs.declared.fault.Stop.{Stop}
use Rattle.adapt_cli.specs.declared.fault.Stop.TheVariants.{Refused, Memory}

-- the rounds on a new forest end in the text of the last state
pub ends_in_text : (mesh : Mesh) (run : RunWords) (rounds : List Round) (first last : State) (text : List ℕ) → run.report ≡ false → IsFirst mesh first → IsRun mesh run.pool rounds first last → IsTextOfState mesh last text → RunsTo mesh run rounds (Ok text)
ends_in_text mesh run rounds first last text no_report is_first ran written = (
  first,
  is_first,
  ran.0,
  ran.1,
  subst (λ (report : Bool). IsOutput mesh report first ran.0 text) (sym no_report) (subst (λ (s : State). IsTextOfState mesh s text) ran.2 written),
)

-- or in the report of all states
pub ends_in_report : (mesh : Mesh) (run : RunWords) (rounds : List Round) (first : State) (text : List ℕ) → run.report ≡ true → IsFirst mesh first → IsReportedRun mesh run.pool rounds first text → RunsTo mesh run rounds (Ok text)
ends_in_report mesh run rounds first text reports is_first ran = (first, is_first, ran.0, ran.1, subst (λ (report : Bool). IsOutput mesh report first ran.0 text) (sym reports) ran.2)

-- the rounds on a new forest are refused
pub ends_refused : (mesh : Mesh) (run : RunWords) (rounds : List Round) (first : State) (stop : Stop) → IsFirst mesh first → StopsBy (LeadTo mesh run.pool rounds first) stop → StopsBy (RunsTo mesh run rounds) stop
ends_refused mesh run rounds first (Refused fault) is_first stops = (first, is_first, stops)
ends_refused mesh run rounds first Memory is_first stops = tt

-- want of memory is no outcome
pub ends_memory : (mesh : Mesh) (run : RunWords) (rounds : List Round) (stop : Stop) → stop ≡ Memory → StopsBy (RunsTo mesh run rounds) stop
ends_memory mesh run rounds stop is = subst (StopsBy (RunsTo mesh run rounds)) (sym is) tt

-- a round that is refused has status 4 or 5
pub refused_status : (round : ℕ) (refusal : RoundRefusal) (fault : Fault) → round_fault round refusal ≡ Some fault → (3 ≤ fault.0) × (fault.0 ≤ 5)
refused_status round (NotALeaf row) fault e = let s = ap (λ (o : Option Fault). status_in o) e in (omega (arith, s), omega (arith, s))
  where
    status_in : Option Fault → ℕ
    status_in None = 0
    status_in (Some f) = f.0
refused_status round (LevelTooDeep row level) fault e = let s = ap (λ (o : Option Fault). status_in o) e in (omega (arith, s), omega (arith, s))
  where
    status_in : Option Fault → ℕ
    status_in None = 0
    status_in (Some f) = f.0
refused_status round (PoolFull needed kept room) fault e = let s = ap (λ (o : Option Fault). status_in o) e in (omega (arith, s), omega (arith, s))
  where
    status_in : Option Fault → ℕ
    status_in None = 0
    status_in (Some f) = f.0
refused_status round (RoundsUsedUp rounds) fault e = absurd (none e)
  where
    none : None ≡ Some fault → ⊥
    none q = cc
refused_status round no_memory fault e = absurd (none e)
  where
    none : None ≡ Some fault → ⊥
    none q = cc

pub lead_status : (mesh : Mesh) (room : ℕ) (rounds : List Round) (old : State) (fault : Fault) → LeadTo mesh room rounds old (Err fault) → (3 ≤ fault.0) × (fault.0 ≤ 5)
lead_status mesh room [] old fault h = absurd (apart h)
  where
    apart : {A B : Type 0} {a : A} {b : B} → ◌≡◌ {A = Result A B} (Err b) (Ok a) → ⊥
    apart q = cc
lead_status mesh room (round ∷ rounds) old fault h = ⊎_elim
    (λ (a : (new : State) × IsMeshRound mesh (whole room) round.rows old new × (rest : Result (List State) Fault) × LeadTo mesh room rounds new rest × (Err fault ≡ preceded new rest)). by a.0 a.2 a.3 a.4 (lead_status mesh room rounds a.0 fault))
    (λ (b : (f : Fault) × Refuses mesh room old.members round f × (Err fault ≡ Err f)).
    let s = refused_status round.number b.1.refusal b.0 b.1.told in
    let same = ap (λ (f : Fault). f.0) (inner b.2) in
    (omega (arith, s.0, same), omega (arith, s.1, same)))
    h
  where
    inner : {A B : Type 0} {a b : B} → ◌≡◌ {A = Result A B} (Err a) (Err b) → a ≡ b
    inner q = cc

    apart : {A B : Type 0} {a : A} {b : B} → ◌≡◌ {A = Result A B} (Err b) (Ok a) → ⊥
    apart q = cc

    by : (new : State) (rest : Result (List State) Fault) → LeadTo mesh room rounds new rest → Err fault ≡ preceded new rest → (LeadTo mesh room rounds new (Err fault) → (3 ≤ fault.0) × (fault.0 ≤ 5)) → (3 ≤ fault.0) × (fault.0 ≤ 5)
    by new (Ok states) leads e later = absurd (apart e)
    by new (Err f) leads e later = later (subst (λ (g : Fault). LeadTo mesh room rounds new (Err g)) (sym (inner e)) leads)

-- a run that is refused has status 4 or 5
pub run_status : (mesh : Mesh) (run : RunWords) (rounds : List Round) (fault : Fault) → RunsTo mesh run rounds (Err fault) → (3 ≤ fault.0) × (fault.0 ≤ 5)
run_status mesh run rounds fault h = lead_status mesh run.pool rounds h.0 fault h.2
