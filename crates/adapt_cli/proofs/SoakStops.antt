-- How a soak ends at a stop.
use Rattle.std.proofs.Common.{◌≡◌, ℕ, inl, inr, arith}
use Rattle.std.specs.Prelude.{Some, string_bytes}
use Rattle.adapt_words.specs.Rounds.{SoakWords}
use Rattle.adapt_words.specs.Words.{soak}
use Rattle.adapt_cli.specs.Ending.{Ends, IsUntouched, Source, StopEnds, Written}
use Rattle.adapt_cli.specs.Soaks.{IsSoakOutcome}
use Rattle.adapt_cli.specs.Stops.{StopsBy}
use Rattle.adapt_cli.specs.declared.fault.Stop.{Stop}
use Rattle.adapt_cli.specs.declared.fault.Stop.TheVariants.{Refused, Memory}
use Rattle.adapt_cli.proofs.Endings.{call, ends_wanting, told}
use Rattle.adapt_cli.proofs.SoakEnds.{soak-status}

-- the line of the stop is written, or a write failed
pub soak_stopped : (s : SoakWords) (source : Source) → source.command ≡ Some (soak s) → source.now ≡ source.before → (out err : Written) → IsUntouched out → (stop : Stop) → StopsBy (IsSoakOutcome s) stop → (result : ℕ) → StopEnds stop err result → Ends (call source out err result)
soak_stopped s source is calm out err kept (Refused fault) stops result at =
    let five = soak-status s (fault.status, string_bytes fault.line) stops in
    told source out err kept (string_bytes fault.line) fault.status result
    (inr (inr (inl (record { low = omega (arith, five); high = omega (arith, five); calm = calm; outcome = record { command = soak s; is_command = is; outcome = stops } }))))
    at
soak_stopped s source is calm out err kept Memory stops result at = ends_wanting source out err kept calm result at
