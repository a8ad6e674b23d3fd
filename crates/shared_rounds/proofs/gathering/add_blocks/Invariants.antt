use Rattle.std.specs.Prelude.{◌≡◌, ◌+◌, ◌++◌, ◌≤◌, [], length, vec_capacity, vec_len}
use Rattle.shared_rounds.specs.Gathered.{blocks_before}
use Rattle.shared_rounds.proofs.gathering.add_blocks.Given as goal

abbrev pub invariant-loop-patch : goal.invariant-loop-patch
invariant-loop-patch l = record {
  items : l.blocks.items ++ blocks_before l.rest.items [] ≡ l.fn.blocks.items ++ blocks_before l.fn.published.items [];
  room : length l.blocks.items + length l.rest.items ≤ vec_capacity l.blocks;
  capacity : vec_capacity l.blocks ≡ vec_capacity l.fn.blocks;
}

abbrev pub decreases-loop-patch : goal.decreases-loop-patch
decreases-loop-patch l = vec_len l.rest
