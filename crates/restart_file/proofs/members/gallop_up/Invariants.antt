use Rattle.std.proofs.Common.{length, ◌-◌, ◌≤◌}
use Rattle.restart_file.proofs.members.gallop_up.Given as goal

abbrev pub invariant-loop-name : goal.invariant-loop-name
invariant-loop-name l = record { up : l.near ≤ l.high; inside : l.high ≤ length l.members }

abbrev pub decreases-loop-name : goal.decreases-loop-name
decreases-loop-name l = length l.members - l.high
