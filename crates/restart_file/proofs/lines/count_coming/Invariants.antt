use Rattle.std.proofs.Common.{◌≡◌, ◌≤◌, ◌+◌, length}
use Rattle.restart_file.specs.Walks.{after}
use Rattle.restart_file.proofs.lines.count_coming.Given as goal

abbrev pub invariant-loop-parent : goal.invariant-loop-parent
invariant-loop-parent l = record { few : l.count + length l.rest.1 ≤ 25; counted : l.count + length (after l.rest.0 l.rest.1) ≡ 1 + length (after l.fn.name.0 l.fn.name.1) }

abbrev pub decreases-loop-parent : goal.decreases-loop-parent
decreases-loop-parent l = length l.rest.1
