use Rattle.std.proofs.Common.{◌≡◌, ◌+◌, ◌≤◌, length}
use Rattle.macro_file.specs.Walks.{tokens_from}
use Rattle.macro_file.proofs.lists.count_tokens.Given as goal

abbrev pub invariant-loop-token : goal.invariant-loop-token
invariant-loop-token l = record {
  counted : length (tokens_from l.line l.bytes) ≡ l.count + length (tokens_from l.here l.left);
  within : l.here + length l.left ≤ l.line + length l.bytes;
  short : l.count + length l.left ≤ length l.bytes;
}

abbrev pub decreases-loop-token : goal.decreases-loop-token
decreases-loop-token l = length l.left
