use Rattle.std.proofs.Common.{◌≡◌, ℕ, ◌<◌, ◌≤◌, ◌-◌, drop, length, false}
use Rattle.macro_file.specs.Walks.{ends_word}
use Rattle.macro_file.proofs.tokens.token_length.Given as goal

abbrev pub invariant-loop-at : goal.invariant-loop-at
invariant-loop-at l = record { on : (k : ℕ) → k < l.at → ends_word (drop k l.bytes) ≡ false; within : l.at ≤ length l.bytes }

abbrev pub decreases-loop-at : goal.decreases-loop-at
decreases-loop-at l = length l.bytes - l.at
