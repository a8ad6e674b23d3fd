use Rattle.std.proofs.Common.{◌≤◌, ◌+◌, ◌-◌, length, drop}
use Rattle.restart_file.specs.Walks.{HasWords}
use Rattle.restart_file.proofs.lines.has_words.Given as goal

abbrev pub invariant-loop-count : goal.invariant-loop-count
invariant-loop-count l = record {
  within : l.place ≤ length l.bytes;
  few : l.count ≤ 25 + l.place;
  back : HasWords l.count (drop l.place l.bytes) → HasWords l.words (drop l.first l.bytes);
  on : HasWords l.words (drop l.first l.bytes) → HasWords l.count (drop l.place l.bytes);
}

abbrev pub decreases-loop-count : goal.decreases-loop-count
decreases-loop-count l = length l.bytes - l.place
