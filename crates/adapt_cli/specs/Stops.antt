-- What a stop says.
use Rattle.std.specs.Prelude.{◌≡◌, ℕ, ◌≤◌, Bool, true, List, length, Option, Some, None, IfSome, Result, Ok, Err, String, string_bytes}
use Rattle.std.specs.declared.alloc.Global.{Global}
use Rattle.std.specs.declared.alloc.AllocError.{AllocError}
use Rattle.std.specs.FinMap.{get}
use Rattle.mesh_io.specs.Faults.{Rose}
use Rattle.mesh_io.specs.Shelves.{Files}
use Rattle.forest_plain.specs.declared.refusal.RoundRefusal.{RoundRefusal}
use Rattle.compat_check.specs.Meshes.{Mesh}
use Rattle.mark_file.specs.Meaning.{Round}
use Rattle.adapt_words.specs.Numbers.{Word}
use Rattle.mesh_rounds.specs.State.{State}
use Rattle.adapt_cli.specs.FaultTexts.{End, Fault, round_fault}
use Rattle.adapt_cli.specs.Reports.{IsReport}
use Rattle.adapt_cli.specs.Rounds.{LeadTo, last_state}
use Rattle.adapt_cli.specs.declared.fault.FileStop.{FileStop}
use Rattle.adapt_cli.specs.declared.fault.FileStop.TheVariants.{Stopped, Unread}
use Rattle.adapt_cli.specs.declared.fault.Stop.{Stop}
use Rattle.adapt_cli.specs.declared.fault.Stop.TheVariants.{Refused, Memory}

-- where the stop is a fault, it is what `ends` tells; want of memory is free
abbrev pub StopsBy : {A : Type 0} → (Result A Fault → Type 0) → Stop → Type 0
StopsBy ends (Refused fault) = ends (Err (fault.status, string_bytes fault.line))
StopsBy ends Memory = Unit {0}

-- where the stop is a fault, it has this status and a line that `refuses` tells; want of memory is free
abbrev pub RefusesBy : ℕ → (List ℕ → Type 0) → Stop → Type 0
RefusesBy status refuses (Refused fault) = (fault.status ≡ status) × refuses (string_bytes fault.line)
RefusesBy status refuses Memory = Unit {0}

-- the stop at a round that is refused
abbrev pub IsRoundStop : ℕ → RoundRefusal → Stop → Type 0
IsRoundStop round refusal (Refused fault) = round_fault round refusal ≡ Some (fault.status, string_bytes fault.line)
IsRoundStop round refusal Memory = Unit {0}

-- the rounds lead from one state to another
abbrev pub IsRun : Mesh → ℕ → List Round → State → State → Type 0
IsRun mesh pool rounds old new = (states : List State) × LeadTo mesh pool rounds old (Ok states) × (new ≡ last_state old states)

-- the rounds lead from a state to others, of which this is the report
abbrev pub IsReportedRun : Mesh → ℕ → List Round → State → List ℕ → Type 0
IsReportedRun mesh pool rounds old text = (states : List State) × LeadTo mesh pool rounds old (Ok states) × IsReport mesh 1 states text

-- when each stop of a command with files comes: what its files lead to, or why that cannot be told; `files`, `steady`, `before` and `now` are the shelf's
abbrev pub IsStop : (Files → End → Type 0) → (Option Files → Word → Type 0) → Option Files → Bool → ℕ → ℕ → FileStop → Type 0
IsStop leads asks files steady before now (Stopped (Refused fault)) =
    (3 ≤ fault.status) × (fault.status ≤ 5) × (now ≡ before) × IfSome files (λ told. leads told (Err (fault.status, string_bytes fault.line)))
IsStop leads asks files steady before now (Stopped Memory) = now ≡ before
IsStop leads asks files steady before now (Unread name) = Rose before now × asks files name.now × (steady ≡ true → IfSome files (λ told. get told name.now ≡ None))

-- when each stop of a load comes; `refuses` tells the lines of this status
abbrev pub IsLoadStop : (List ℕ → List ℕ → Type 0) → ℕ → Word → Option Files → Bool → ℕ → ℕ → FileStop → Type 0
IsLoadStop refuses status name files steady before now (Stopped (Refused fault)) =
    (fault.status ≡ status) × (now ≡ before) × IfSome files (λ told. (bytes : List ℕ) × (get told name ≡ Some bytes) × refuses bytes (string_bytes fault.line))
IsLoadStop refuses status name files steady before now (Stopped Memory) = now ≡ before
IsLoadStop refuses status name files steady before now (Unread asked) = (asked.now ≡ name) × Rose before now × (steady ≡ true → IfSome files (λ told. get told name ≡ None))

-- the stop with this status and line, where there is a line
abbrev pub IsRefusedWith : ℕ → Result (String Global) AllocError → Stop → Type 0
IsRefusedWith status line (Refused fault) = (fault.status ≡ status) × (line ≡ Ok fault.line)
IsRefusedWith status line Memory = Unit {0}

-- the shelf gave bytes of which this holds, those of the name where it tells its files
abbrev pub Gives : (List ℕ → Type 0) → Word → Option Files → ℕ → ℕ → Type 0
Gives holds name files before now = (now ≡ before) × IfSome files (λ told. (bytes : List ℕ) × (get told name ≡ Some bytes) × holds bytes)

-- the shelf gave these bytes, which are not more than the limit
abbrev pub GivesBytes : List ℕ → ℕ → List ℕ → Type 0
GivesBytes given limit bytes = (bytes ≡ given) × (length bytes ≤ limit)

-- the text that a command is to write, which is what its files lead to where the shelf tells them
abbrev pub IsTextOf : (Files → End → Type 0) → Option Files → ℕ → ℕ → List ℕ → Type 0
IsTextOf leads files before now text = (now ≡ before) × IfSome files (λ told. leads told (Ok text))
