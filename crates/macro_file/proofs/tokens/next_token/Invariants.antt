use Rattle.std.proofs.Common.{◌≡◌, ◌≤◌, ◌+◌, length}
use Rattle.macro_file.specs.Walks.{tokens_from}
use Rattle.macro_file.proofs.tokens.next_token.Given as goal

abbrev pub invariant-loop-left : goal.invariant-loop-left
invariant-loop-left l = record { same : tokens_from l.line l.bytes ≡ tokens_from l.here l.left; within : l.here + length l.left ≤ l.line + length l.bytes; short : length l.left ≤ length l.bytes }

abbrev pub decreases-loop-left : goal.decreases-loop-left
decreases-loop-left l = length l.left
