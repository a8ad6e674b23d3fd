use Rattle.std.proofs.Common.{◌≤◌, ◌+◌, ◌-◌, length}
use Rattle.macro_file.proofs.LineLemmas.{Read}
use Rattle.macro_file.proofs.lines.next_key.Given as goal

abbrev pub invariant-loop-rest : goal.invariant-loop-rest
invariant-loop-rest l = record {
  read : Read l.line l.here l.at l.bytes;
  within : l.at ≤ length l.bytes;
  counted : l.here ≤ l.line + l.at;
}

abbrev pub decreases-loop-rest : goal.decreases-loop-rest
decreases-loop-rest l = length l.bytes + 1 - l.at
