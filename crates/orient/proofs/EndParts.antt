-- What the parts of a call lead to, put together.
use Rattle.std.proofs.Common.{ℕ, List, inr}
use Rattle.std.specs.Prelude.{Result, Ok, Err, Vec}
use Rattle.std.specs.declared.alloc.Global.{Global}
use Rattle.macro_file.specs.declared.text.MacroText.{MacroText}
use Rattle.orient.specs.Oriented.{IsRead}
use Rattle.orient.specs.Parts.{BytesEnd, TextEnds}
use Rattle.orient.specs.declared.stop.Stop.{Stop}
use Rattle.orient.specs.declared.stop.Stop.TheVariants.{Refused, Memory, Unread}

-- bytes that are a macro text
pub read_text : (bytes : List ℕ) (text : MacroText) → IsRead bytes text → (end : Result (Vec ℕ Global) Stop) → TextEnds text end → BytesEnd bytes end
read_text bytes text read (Ok t) h = inr (inr (text, read, h))
read_text bytes text read (Err (Refused l)) h = inr (inr (text, read, h))
read_text bytes text read (Err Memory) h = tt
read_text bytes text read (Err Unread) h = absurd h
