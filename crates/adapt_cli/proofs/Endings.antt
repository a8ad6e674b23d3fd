-- How a call ends.
use Rattle.std.proofs.Common.{◌≡◌, ℕ, Bool, refl, sym, List, inl, inr, ⊎_elim, subst}
use Rattle.std.specs.Prelude.{Option, Some, None, IfErr, IfOk, IfSome, Result, Ok, Err, Vec, string_bytes}
use Rattle.std.specs.declared.alloc.Global.{Global}
use Rattle.mesh_io.specs.Shelves.{Files}
use Rattle.adapt_words.specs.Numbers.{Word}
use Rattle.adapt_words.specs.Words.{CommandWords}
use Rattle.adapt_cli.specs.FaultTexts.{End, memory_line, read_fault_line, usage}
use Rattle.adapt_cli.specs.Ending.{AsksFor, Call, Ends, Finishes, IsOutcomeOf, IsText, IsUntouched, LineEnds, Source, Tells, TextEnds, Written}
use Rattle.adapt_cli.specs.Stops.{IsStop, IsTextOf}
use Rattle.adapt_cli.specs.declared.fault.FileStop.{FileStop}
use Rattle.adapt_cli.specs.declared.fault.FileStop.TheVariants.{Stopped, Unread}
use Rattle.adapt_cli.specs.declared.fault.Stop.TheVariants.{Refused, Memory}

abbrev pub call : Source → Written → Written → ℕ → Call
call source out err status = record { source = source; out = out; err = err; status = status }

-- a line that was to be told, with the status that goes with it
pub told : (source : Source) (out err : Written) → IsUntouched out → (line : List ℕ) (status result : ℕ) → Tells source status line → LineEnds err line status result → Ends (call source out err result)
told source out err kept line status result tells ends = ⊎_elim
    (λ h. inr (inl (record {
      line = line;
      tells = subst (λ (s : ℕ). Tells source s line) (sym h.0) tells;
      out_kept = kept;
      err_took = h.1;
    })))
    (λ h. inr (inr (inr (record {
      status_is = h.0;
      status = status;
      line = line;
      tells = tells;
      out_kept = kept;
      err_failed = h.1;
    }))))
    ends

-- a text that was to be written
pub written_out : (source : Source) (out err : Written) (text : List ℕ) (result : ℕ) → IsText source text → TextEnds out err text result → Ends (call source out err result)
written_out source out err text result is_text ends = ⊎_elim
    (λ h. inl (record { status_is = h.0; text = text; is_text = is_text; out_took = h.1; err_kept = h.2 }))
    (λ h. inr (inr (inl (record { status_is = h.0; text = text; is_text = is_text; out_failed = h.1; err_told = h.2 }))))
    ends

-- a command with files: what they lead to is its outcome
module _ (leads : Files → End → Type 0) (asks : Option Files → Word → Type 0) (command : CommandWords) (asked : Option CommandWords) (is : asked ≡ Some command) (files : Option Files) (steady : Bool) (before now : ℕ)
    (is_outcome : (end : End) → IfSome files (λ told. leads told end) → IsOutcomeOf files command end) (is_asked : (name : Word) → asks files name → AsksFor command files name) where
  abbrev pub source_of : Source
  source_of = record { command = asked; files = files; steady = steady; before = before; now = now }

  pub finished : (ended : Result (Vec ℕ Global) FileStop) (out err : Written) (result : ℕ) → IfOk ended (λ text. IsTextOf leads files before now text.items) → IfErr ended (IsStop leads asks files steady before now) →
      Finishes ended out err result → Ends (call source_of out err result)
  finished (Ok text) out err result h stops at = written_out source_of out err text.items result (record { calm = h.0; outcome = record { command = command; is_command = is; outcome = is_outcome (Ok text.items) h.1 } }) at
  finished (Err (Stopped (Refused fault))) out err result h stops at = told source_of out err at.0 (string_bytes fault.line) fault.status result (inr (inr (inl (record { low = stops.0; high = stops.1; calm = stops.2; outcome = record { command = command; is_command = is; outcome = is_outcome (Err (fault.status, string_bytes fault.line)) stops.3 } })))) at.1
  finished (Err (Stopped Memory)) out err result h stops at = told source_of out err at.0 memory_line 1 result (inl (record { status_is = refl; line_is = refl; calm = stops })) at.1
  finished (Err (Unread name)) out err result h stops at = told source_of out err at.0 (read_fault_line name.now) 6 result (inr (inr (inr (record {
    status_is = refl;
    name = name.now;
    is_next = (command, is, is_asked name.now stops.1);
    line_is = refl;
    rose = stops.0;
    missing = stops.2;
  })))) at.1

-- the words are outside the form
pub ends_outside : (source : Source) (out err : Written) → IsUntouched out → source.command ≡ None → source.now ≡ source.before → (result : ℕ) → LineEnds err usage 2 result → Ends (call source out err result)
ends_outside source out err kept outside calm result ends = told source out err kept usage 2 result (inr (inl (record { status_is = refl; line_is = refl; outside = outside; calm = calm }))) ends

-- there was no memory
pub ends_wanting : (source : Source) (out err : Written) → IsUntouched out → source.now ≡ source.before → (result : ℕ) → LineEnds err memory_line 1 result → Ends (call source out err result)
ends_wanting source out err kept calm result ends = told source out err kept memory_line 1 result (inl (record { status_is = refl; line_is = refl; calm = calm })) ends
