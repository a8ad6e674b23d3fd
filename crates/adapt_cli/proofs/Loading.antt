-- What the loads of the files lead to.
use Rattle.std.proofs.Common.{◌≡◌, ℕ, zero, suc, subst, Bool, List, [], ◌∷◌, map, arith}
use Rattle.std.specs.Prelude.{All, Result, IfOk, Option, Some, None, IfSome, String, string_bytes}
use Rattle.std.specs.FinMap.{get}
use Rattle.std.specs.declared.alloc.Global.{Global}
use Rattle.std.specs.declared.alloc.AllocError.{AllocError}
use Rattle.mesh_io.specs.Shelves.{Files}
use Rattle.mesh_names.specs.Marks.{IsWellFormed}
use Rattle.mesh_names.specs.declared.rows.RoundMarks.{RoundMarks}
use Rattle.mark_file.specs.Meaning.{AreMarks, Round, round_read, rounds_read}
use Rattle.adapt_words.specs.Numbers.{Word}
use Rattle.adapt_cli.specs.Stops.{Gives, IsLoadStop, IsRefusedWith, RefusesBy}
use Rattle.adapt_cli.specs.declared.fault.FileStop.{FileStop}
use Rattle.adapt_cli.specs.declared.fault.FileStop.TheVariants.{Stopped, Unread}
use Rattle.adapt_cli.specs.declared.fault.Stop.{Stop}
use Rattle.adapt_cli.specs.declared.fault.Stop.TheVariants.{Refused, Memory}

-- a line that is refused with this status
pub refused-line : (status : ℕ) (refuses : List ℕ → Type 0) (line : Result (String Global) AllocError) → IfOk line (λ t. refuses (string_bytes t)) → (stop : Stop) → IsRefusedWith status line stop → RefusesBy status refuses stop
refused-line status refuses line told (Refused fault) h = (h.0, subst (λ (r : Result (String Global) AllocError). IfOk r (λ t. refuses (string_bytes t))) h.1 told)
refused-line status refuses line told Memory h = tt

-- more is known of the bytes that a shelf gave
pub gives-more : (less more : List ℕ → Type 0) → ((bytes : List ℕ) → less bytes → more bytes) → (name : Word) (files : Option Files) (before now : ℕ) → Gives less name files before now → Gives more name files before now
gives-more less more wider name files before now h = (h.0, by files h.1)
  where
    by : (o : Option Files) → IfSome o (λ told. (bytes : List ℕ) × (get told name ≡ Some bytes) × less bytes) → IfSome o (λ told. (bytes : List ℕ) × (get told name ≡ Some bytes) × more bytes)
    by None x = tt
    by (Some told) x = (x.0, x.1, wider x.0 x.2)

module _ (name : Word) (status : ℕ) (files : Option Files) (steady : Bool) (before now : ℕ) where
  -- what is refused for a reason is refused for one of several
  pub load-refused : (less more : List ℕ → List ℕ → Type 0) → ((bytes line : List ℕ) → less bytes line → more bytes line) → (stop : FileStop) → IsLoadStop less status name files steady before now stop → IsLoadStop more status name files steady before now stop
  load-refused less more wider (Stopped (Refused fault)) h = (h.0, h.1, by files h.2)
    where
      by : (o : Option Files) → IfSome o (λ told. (bytes : List ℕ) × (get told name ≡ Some bytes) × less bytes (string_bytes fault.line)) → IfSome o (λ told. (bytes : List ℕ) × (get told name ≡ Some bytes) × more bytes (string_bytes fault.line))
      by None x = tt
      by (Some told) x = (x.0, x.1, wider x.0 (string_bytes fault.line) x.2)
  load-refused less more wider (Stopped Memory) h = h
  load-refused less more wider (Unread asked) h = h

  -- bytes that were given are refused
  pub given-refused : (holds tells : List ℕ → Type 0) (refuses : List ℕ → List ℕ → Type 0) → ((bytes line : List ℕ) → holds bytes → tells line → refuses bytes line) →
      Gives holds name files before now → (stop : Stop) → RefusesBy status tells stop → IsLoadStop refuses status name files steady before now (Stopped stop)
  given-refused holds tells refuses joins gives (Refused fault) h = (h.0, gives.0, by files gives.1)
    where
      by : (o : Option Files) → IfSome o (λ told. (bytes : List ℕ) × (get told name ≡ Some bytes) × holds bytes) → IfSome o (λ told. (bytes : List ℕ) × (get told name ≡ Some bytes) × refuses bytes (string_bytes fault.line))
      by None x = tt
      by (Some told) x = (x.0, x.1, joins x.0 (string_bytes fault.line) x.2 h.1)
  given-refused holds tells refuses joins gives Memory h = gives.0

-- rows that a marks file gives
pub marks_formed : (rounds : List RoundMarks) → AreMarks (rounds_read rounds) → All (λ r. All IsWellFormed r.rows.items) rounds
marks_formed rounds marks = each rounds marks.rows
  where
    each : (rs : List RoundMarks) → All (λ (round : Round). All IsWellFormed round.rows) (map round_read rs) → All (λ r. All IsWellFormed r.rows.items) rs
    each [] h k d l = absurd (omega (arith, l))
    each (r ∷ rs) h zero d l = λ j e m. h 0 (round_read d) (omega arith) j e m
    each (r ∷ rs) h (suc k) d l = each rs (λ j e m. h (suc j) e (omega (arith, m))) k d (omega (arith, l))

-- what is refused for a reason is refused for one of several
pub refuses-more : (status : ℕ) (less more : List ℕ → Type 0) → ((line : List ℕ) → less line → more line) → (stop : Stop) → RefusesBy status less stop → RefusesBy status more stop
refuses-more status less more wider (Refused fault) h = (h.0, wider (string_bytes fault.line) h.1)
refuses-more status less more wider Memory h = tt
