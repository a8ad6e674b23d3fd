use Rattle.std.proofs.Common.{◌≡◌, ◌<◌, ℕ, false, get_or}
use Rattle.restart_file.specs.Heads.{is_newline}
use Rattle.restart_file.proofs.head.newline_of.Given as goal

abbrev pub invariant-loop-at : goal.invariant-loop-at
invariant-loop-at l = (k : ℕ) → k < l.at → is_newline (get_or l.text k 0) ≡ false
