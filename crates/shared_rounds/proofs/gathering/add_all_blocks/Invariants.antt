use Rattle.std.specs.Prelude.{◌≡◌, ◌++◌, map, vec_capacity}
use Rattle.shared_rounds.specs.Gathered.{all_blocks}
use Rattle.shared_rounds.proofs.gathering.add_all_blocks.Given as goal

abbrev pub invariant-loop-pass : goal.invariant-loop-pass
invariant-loop-pass l = record {
  items : l.blocks.items ≡ l.fn.blocks.items ++ all_blocks (map (λ d. d.lists) l.yielded);
  capacity : vec_capacity l.blocks ≡ vec_capacity l.fn.blocks;
}
