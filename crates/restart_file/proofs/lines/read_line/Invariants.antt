use Rattle.std.proofs.Common.{◌≡◌, ◌≤◌, ◌-◌, length, drop}
use Rattle.std.specs.Prelude.{IfSome}
use Rattle.restart_file.specs.Walks.{coming}
use Rattle.restart_file.proofs.Parsing.{IsReading}
use Rattle.restart_file.proofs.lines.read_line.Given as goal

abbrev pub invariant-loop-at : goal.invariant-loop-at
invariant-loop-at l = record {
  within : l.place ≤ length l.bytes;
  root : IfSome l.at (λ n. n.0 ≡ l.root);
  reading : IsReading l.mesh l.root (drop l.first l.bytes) l.fn.members.items l.members.items (coming l.at) (drop l.place l.bytes);
}

abbrev pub decreases-loop-at : goal.decreases-loop-at
decreases-loop-at l = length l.bytes - l.place
