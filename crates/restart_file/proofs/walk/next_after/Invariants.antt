use Rattle.std.proofs.Common.{◌≡◌, ◌≤◌, length}
use Rattle.restart_file.specs.Walks.{after}
use Rattle.restart_file.proofs.walk.next_after.Given as goal

abbrev pub invariant-loop-parent : goal.invariant-loop-parent
invariant-loop-parent l = record { few : length l.at.1 ≤ 24; root : l.at.0 ≡ l.fn.name.0; same : after l.at.0 l.at.1 ≡ after l.fn.name.0 l.fn.name.1 }

abbrev pub decreases-loop-parent : goal.decreases-loop-parent
decreases-loop-parent l = length l.at.1
