use Rattle.std.proofs.Common.{◌≤◌, length, drop}
use Rattle.restart_file.proofs.Files.{IsSoFar}
use Rattle.restart_file.proofs.reading.read_lines.Given as goal

abbrev pub invariant-loop-root : goal.invariant-loop-root
invariant-loop-root l = record { within : l.place ≤ length l.bytes; so_far : IsSoFar l.mesh l.bytes (drop l.place l.bytes) l.members.items l.root }
