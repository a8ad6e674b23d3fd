-- What the parts of a call answer.
use Rattle.std.specs.Prelude.{◌≡◌, ℕ, List, Result, Ok, Err, String, Vec, string_bytes}
use Rattle.std.specs.declared.alloc.Global.{Global}
use Rattle.std.specs.declared.alloc.AllocError.{AllocError}
use Rattle.macro_file.specs.declared.text.MacroText.{MacroText}
use Rattle.orient.specs.Oriented.{Leads, TextLeads}
use Rattle.orient.specs.declared.stop.Stop.{Stop}
use Rattle.orient.specs.declared.stop.Stop.TheVariants.{Refused, Memory, Unread}

-- the stop with this line, where there is one
abbrev pub LineStops : Result (String Global) AllocError → Stop → Type 0
LineStops line (Refused told) = line ≡ Ok told
LineStops line Memory = Unit {0}
LineStops line Unread = ⊥

-- an end is what `leads` tells; want of memory is free, and there is nothing to load
abbrev pub EndsAs : (Result (List ℕ) (List ℕ) → Type 0) → Result (Vec ℕ Global) Stop → Type 0
EndsAs leads (Ok text) = leads (Ok text.items)
EndsAs leads (Err (Refused line)) = leads (Err (string_bytes line))
EndsAs leads (Err Memory) = Unit {0}
EndsAs leads (Err Unread) = ⊥

-- what a macro text leads to, and what the bytes of a file lead to
abbrev pub TextEnds : MacroText → Result (Vec ℕ Global) Stop → Type 0
TextEnds text = EndsAs (TextLeads text)

abbrev pub BytesEnd : List ℕ → Result (Vec ℕ Global) Stop → Type 0
BytesEnd bytes = EndsAs (Leads bytes)
