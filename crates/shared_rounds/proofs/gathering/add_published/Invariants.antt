use Rattle.std.specs.Prelude.{◌≡◌, ◌+◌, ◌++◌, ◌≤◌, [], length, vec_capacity, vec_len}
use Rattle.shared_rounds.specs.Gathered.{held_before}
use Rattle.shared_rounds.proofs.gathering.add_published.Given as goal

abbrev pub invariant-loop-patch : goal.invariant-loop-patch
invariant-loop-patch l = record {
  items : l.held.items ++ held_before l.rest.items [] ≡ l.fn.held.items ++ held_before l.fn.published.items [];
  room : length l.held.items + length l.rest.items ≤ vec_capacity l.held;
  capacity : vec_capacity l.held ≡ vec_capacity l.fn.held;
}

abbrev pub decreases-loop-patch : goal.decreases-loop-patch
decreases-loop-patch l = vec_len l.rest
