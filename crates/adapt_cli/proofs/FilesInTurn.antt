-- From the loads of files, one after another, to what they lead to.
use Rattle.std.proofs.Common.{◌≡◌, ℕ, ◌≤◌, Bool, true, refl, sym, ◌∙◌, subst, List, inl, inr, arith}
use Rattle.std.specs.Prelude.{Option, Some, None, IfSome, Ok, Err, string_bytes}
use Rattle.std.specs.FinMap.{get}
use Rattle.mesh_io.specs.Faults.{Rose}
use Rattle.mesh_io.specs.Shelves.{Files}
use Rattle.mark_file.specs.Meaning.{Round}
use Rattle.adapt_words.specs.Numbers.{Word}
use Rattle.adapt_cli.specs.FaultTexts.{End, Fault}
use Rattle.adapt_cli.specs.InputFiles.{AcceptsMarks, RefusesMarks}
use Rattle.adapt_cli.specs.Loads.{Asks, AsksOnce, IsAccepted, Loads}
use Rattle.adapt_cli.specs.Outcome.{LoadsMarks}
use Rattle.adapt_cli.specs.Stops.{Gives, IsLoadStop, IsStop, IsTextOf, StopsBy}
use Rattle.adapt_cli.specs.declared.fault.FileStop.{FileStop}
use Rattle.adapt_cli.specs.declared.fault.FileStop.TheVariants.{Stopped, Unread}
use Rattle.adapt_cli.specs.declared.fault.Stop.{Stop}
use Rattle.adapt_cli.specs.declared.fault.Stop.TheVariants.{Refused, Memory}

-- all files are read: what is told of them now is the outcome
pub ends-text : (ends : End → Type 0) (files : Option Files) (count : ℕ) (text : List ℕ) → ends (Ok text) → IsTextOf (λ told. ends) files count count text
ends-text ends files count text h = (refl, by files)
  where
    by : (o : Option Files) → IfSome o (λ told. ends (Ok text))
    by None = tt
    by (Some told) = h

pub ends-stops : (ends : End → Type 0) (asks : Option Files → Word → Type 0) → ((fault : Fault) → ends (Err fault) → (3 ≤ fault.0) × (fault.0 ≤ 5)) →
    (files : Option Files) (steady : Bool) (count : ℕ) (stop : Stop) → StopsBy ends stop → IsStop (λ told. ends) asks files steady count count (Stopped stop)
ends-stops ends asks status files steady count (Refused fault) h = ((status (fault.status, string_bytes fault.line) h).0, (status (fault.status, string_bytes fault.line) h).1, refl, by files)
  where
    by : (o : Option Files) → IfSome o (λ told. ends (Err (fault.status, string_bytes fault.line)))
    by None = tt
    by (Some told) = h
ends-stops ends asks status files steady count Memory h = refl

-- one file and what follows it
module _ {A : Type 0} (name : Word) (status : ℕ) (low : 3 ≤ status) (high : status ≤ 5) (refuses : List ℕ → List ℕ → Type 0) (accepts : List ℕ → A → Type 0) (next : A → Files → End → Type 0)
    (files : Option Files) (asks : Option Files → Word → Type 0) (asked_first : (n : Word) → n ≡ name → asks files n) (steady : Bool) (before : ℕ) where
  -- it is not there, too long, or refused
  pub load-stops : (now : ℕ) (stop : FileStop) → IsLoadStop refuses status name files steady before now stop → IsStop (Loads name status refuses accepts next) asks files steady before now stop
  load-stops now (Stopped (Refused fault)) h = (omega (arith, h.0, low), omega (arith, h.0, high), h.1, by files h.2)
    where
      by : (o : Option Files) → IfSome o (λ told. (bytes : List ℕ) × (get told name ≡ Some bytes) × refuses bytes (string_bytes fault.line)) → IfSome o (λ told. Loads name status refuses accepts next told (Err (fault.status, string_bytes fault.line)))
      by None x = tt
      by (Some told) x = (x.0, x.1, inl (string_bytes fault.line, x.2, λ i. Err (h.0 i, string_bytes fault.line)))
  load-stops now (Stopped Memory) h = h
  load-stops now (Unread asked) h = (h.1, asked_first asked.now h.0, λ steadily. subst (λ (n : Word). IfSome files (λ told. get told n ≡ None)) (sym h.0) (h.2 steadily))

  module _ (read : A) (first : ℕ) (files_now : Option Files) (same : files_now ≡ files) (steady_now : Bool) (stays : steady ≡ true → steady_now ≡ true) (gives : Gives (λ bytes. accepts bytes read) name files before first) where
    combine : (end : End) (o : Option Files) → IfSome o (λ told. (bytes : List ℕ) × (get told name ≡ Some bytes) × accepts bytes read) → IfSome o (λ told. next read told end) → IfSome o (λ told. Loads name status refuses accepts next told end)
    combine end None g n = tt
    combine end (Some told) g n = (g.0, g.1, inr (read, g.2, n))

    leads : (end : End) → IfSome files_now (λ told. next read told end) → IfSome files (λ told. Loads name status refuses accepts next told end)
    leads end n = combine end files gives.1 (subst (λ (o : Option Files). IfSome o (λ told. next read told end)) same n)

    accepted : IsAccepted accepts files name
    accepted = by files gives.1
      where
        by : (o : Option Files) → IfSome o (λ told. (bytes : List ℕ) × (get told name ≡ Some bytes) × accepts bytes read) → IsAccepted accepts o name
        by None g = tt
        by (Some told) g = (g.0, g.1, read, g.2)

    -- it is accepted, and what follows ends in a text
    pub then-text : (now : ℕ) (text : List ℕ) → IsTextOf (next read) files_now first now text → IsTextOf (Loads name status refuses accepts next) files before now text
    then-text now text h = (h.0 ∙ gives.0, leads (Ok text) h.1)

    -- or stops
    pub then-stops : (more : Option Files → Word → Type 0) → ((n : Word) → IsAccepted accepts files name → more files n → asks files n) → (now : ℕ) (stop : FileStop) → IsStop (next read) more files_now steady_now first now stop → IsStop (Loads name status refuses accepts next) asks files steady before now stop
    then-stops more asked_then now (Stopped (Refused fault)) h = (h.0, h.1, h.2 ∙ gives.0, leads (Err (fault.status, string_bytes fault.line)) h.3)
    then-stops more asked_then now (Stopped Memory) h = h ∙ gives.0
    then-stops more asked_then now (Unread asked) h = (
      subst (λ (b : ℕ). Rose b now) gives.0 h.0,
      asked_then asked.now accepted (subst (λ (o : Option Files). more o asked.now) same h.1),
      λ steadily. subst (λ (o : Option Files). IfSome o (λ told. get told asked.now ≡ None)) same (h.2 (stays steadily)),
    )

-- no file is asked for
abbrev pub asks_none : Option Files → Word → Type 0
asks_none files asked = ⊥

-- a file, and then a marks file, after which no other file is asked for; the first has status 3
module _ {A : Type 0} (first_file marks_file : Word) (refuses : List ℕ → List ℕ → Type 0) (accepts : List ℕ → A → Type 0) (next : A → List Round → End → Type 0) (files : Option Files) (steady : Bool) (before : ℕ) where
  abbrev after_first : A → Files → End → Type 0
  after_first read = LoadsMarks marks_file (λ rounds told. next read rounds)

  abbrev leading : Files → End → Type 0
  leading = Loads first_file 3 refuses accepts after_first

  abbrev asking : Option Files → Word → Type 0
  asking = Asks first_file accepts (AsksOnce marks_file)

  asked_first : (n : Word) → n ≡ first_file → asking files n
  asked_first n e = inl e

  asked_then : (n : Word) → IsAccepted accepts files first_file → AsksOnce marks_file files n → asking files n
  asked_then n accepted e = inr (accepted, e)

  pub first-stops : (now : ℕ) (stop : FileStop) → IsLoadStop refuses 3 first_file files steady before now stop → IsStop leading asking files steady before now stop
  first-stops now stop h = load-stops first_file 3 (omega arith) (omega arith) refuses accepts after_first files asking asked_first steady before now stop h

  module _ (read : A) (first : ℕ) (files_now : Option Files) (same : files_now ≡ files) (steady_now : Bool) (stays : steady ≡ true → steady_now ≡ true) (gives : Gives (λ bytes. accepts bytes read) first_file files before first) where
    rest-stops : (now : ℕ) (stop : FileStop) → IsStop (after_first read) (AsksOnce marks_file) files_now steady_now first now stop → IsStop leading asking files steady before now stop
    rest-stops now stop h = then-stops first_file 3 (omega arith) (omega arith) refuses accepts after_first files asking asked_first steady before read first files_now same steady_now stays gives (AsksOnce marks_file) asked_then now stop h

    pub marks-stops : (now : ℕ) (stop : FileStop) → IsLoadStop RefusesMarks 4 marks_file files_now steady_now first now stop → IsStop leading asking files steady before now stop
    marks-stops now stop h = rest-stops now stop (load-stops marks_file 4 (omega arith) (omega arith) RefusesMarks AcceptsMarks (λ rounds told. next read rounds) files_now (AsksOnce marks_file) (λ n e. e) steady_now first now stop h)

    module _ (rounds : List Round) (now : ℕ) (gives_marks : Gives (λ bytes. AcceptsMarks bytes rounds) marks_file files_now first now) where
      pub rounds-text : (text : List ℕ) → next read rounds (Ok text) → IsTextOf leading files before now text
      rounds-text text h =
          then-text first_file 3 (omega arith) (omega arith) refuses accepts after_first files asking asked_first steady before read first files_now same steady_now stays gives now text
          (then-text marks_file 4 (omega arith) (omega arith) RefusesMarks AcceptsMarks (λ rs told. next read rs) files_now (AsksOnce marks_file) (λ n e. e) steady_now first rounds now files_now refl steady_now (λ e. e) gives_marks now text
          (ends-text (next read rounds) files_now now text h))

      pub rounds-stop : ((fault : Fault) → next read rounds (Err fault) → (3 ≤ fault.0) × (fault.0 ≤ 5)) → (stop : Stop) → StopsBy (next read rounds) stop → IsStop leading asking files steady before now (Stopped stop)
      rounds-stop status stop h = rest-stops now (Stopped stop)
          (then-stops marks_file 4 (omega arith) (omega arith) RefusesMarks AcceptsMarks (λ rs told. next read rs) files_now (AsksOnce marks_file) (λ n e. e) steady_now first rounds now files_now refl steady_now (λ e. e) gives_marks asks_none (λ n a x. absurd x) now (Stopped stop)
          (ends-stops (next read rounds) asks_none status files_now steady_now now stop h))
