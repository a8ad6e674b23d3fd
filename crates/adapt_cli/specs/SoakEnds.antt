-- How a soak ends: no row is refused, and no file is read.
use Rattle.std.specs.Prelude.{◌≡◌, ℕ, ◌+◌, ◌<◌, ◌≤◌, ◌⊎◌, List, Some, Err}
use Rattle.adapt_words.specs.Rounds.{SoakWords}
use Rattle.adapt_words.specs.Words.{soak}
use Rattle.adapt_cli.specs.Ending.{Call, Ends, Took}
use Rattle.adapt_cli.specs.FaultTexts.{Fault, full_pool}
use Rattle.adapt_cli.specs.Soaks.{IsSoakOutcome}

-- the fault is that of a full pool at one of so many rounds, of which the first has this number
pub record IsFullPool (pool first rounds : ℕ) (fault : Fault) : Type 0 where
  pub round : ℕ
  pub needed : ℕ
  pub from : first ≤ round
  pub within : round < first + rounds
  pub told : fault ≡ full_pool round needed pool

-- the law that each fault of a soak is a full pool
abbrev pub FaultsAreFullPools : Type 0
FaultsAreFullPools = (s : SoakWords) (fault : Fault) → IsSoakOutcome s (Err fault) → IsFullPool s.pool 1 s.rounds fault

-- the call has status 5, and err took the line of a full pool
pub record TellsFullPool (s : SoakWords) (call : Call) : Type 0 where
  pub status_is : call.status ≡ 5
  pub line : List ℕ
  pub full : IsFullPool s.pool 1 s.rounds (call.status, line)
  pub err_took : Took call.err line

-- the ends of a soak: its line was written, there was no memory, the pool was full, or a write failed
abbrev pub IsSoakEnd : SoakWords → Call → Type 0
IsSoakEnd s call = (call.status ≡ 0) ⊎ (call.status ≡ 1) ⊎ TellsFullPool s call ⊎ (call.status ≡ 7)

-- the law that a soak ends with status 0, 1, 5 or 7, and with 5 for a full pool
abbrev pub SoaksEnd : Type 0
SoaksEnd = (call : Call) (s : SoakWords) → call.source.command ≡ Some (soak s) → Ends call → IsSoakEnd s call
