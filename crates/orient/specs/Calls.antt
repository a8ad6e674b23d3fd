-- How a call of the program ends.
use Rattle.std.specs.Prelude.{◌≡◌, ℕ, Bool, true, List, [], ◌∷◌, codes, Option, Some, None, IfSome, Result, Ok, Err, Vec, string_bytes}
use Rattle.std.specs.declared.alloc.Global.{Global}
use Rattle.std.specs.FinMap.{get}
use Rattle.mesh_io.specs.Faults.{Rose}
use Rattle.mesh_io.specs.Shelves.{Files}
use Rattle.adapt_cli.specs.Ending.{IsUntouched, LineEnds, TextEnds, Written}
use Rattle.adapt_cli.specs.FaultTexts.{memory_line, read_fault_line}
use Rattle.orient.specs.Oriented.{Leads}
use Rattle.orient.specs.declared.stop.Stop.{Stop}
use Rattle.orient.specs.declared.stop.Stop.TheVariants.{Refused, Memory, Unread}

-- the line for words that are not one name
abbrev pub usage : List ℕ
usage = codes "usage: orient MACRO\n"

-- what the shelf tells at the start and whether it is steady, with its count of faults before and after
pub record Source : Type 0 where
  pub files : Option Files
  pub steady : Bool
  pub before : ℕ
  pub now : ℕ

-- nothing failed, and the file of this name leads to this, where the shelf tells its files
abbrev pub FileLeads : List ℕ → Source → Result (List ℕ) (List ℕ) → Type 0
FileLeads name source end =
    (source.now ≡ source.before) × IfSome source.files (λ told. (bytes : List ℕ) × (get told name ≡ Some bytes) × Leads bytes end)

-- what the file of this name leads to, or why that cannot be told
abbrev pub IsEnd : List ℕ → Source → Result (Vec ℕ Global) Stop → Type 0
IsEnd name source (Ok text) = FileLeads name source (Ok text.items)
IsEnd name source (Err (Refused line)) = FileLeads name source (Err (string_bytes line))
IsEnd name source (Err Memory) = source.now ≡ source.before
IsEnd name source (Err Unread) = Rose source.before source.now × (source.steady ≡ true → IfSome source.files (λ told. get told name ≡ None))

-- how a call ends by that
abbrev pub Finishes : List ℕ → Result (Vec ℕ Global) Stop → Written → Written → ℕ → Type 0
Finishes name (Ok text) out err status = TextEnds out err text.items status
Finishes name (Err (Refused line)) out err status = IsUntouched out × LineEnds err (string_bytes line) 3 status
Finishes name (Err Memory) out err status = IsUntouched out × LineEnds err memory_line 1 status
Finishes name (Err Unread) out err status = IsUntouched out × LineEnds err (read_fault_line name) 6 status

-- how a call with this name ends
abbrev pub EndsBy : List ℕ → Source → Written → Written → ℕ → Type 0
EndsBy name source out err status = (end : Result (Vec ℕ Global) Stop) × IsEnd name source end × Finishes name end out err status

-- how a call with these words ends
abbrev pub Ends : List (List ℕ) → Source → Written → Written → ℕ → Type 0
Ends (name ∷ []) source out err status = EndsBy name source out err status
Ends words source out err status = (source.now ≡ source.before) × IsUntouched out × LineEnds err usage 2 status
