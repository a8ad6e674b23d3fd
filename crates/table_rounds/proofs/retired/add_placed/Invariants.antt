use Rattle.std.specs.Prelude.{◌≡◌, ◌+◌, ◌++◌, length, map, take, vec_capacity}
use Rattle.table_rounds.specs.Patches.{nth}
use Rattle.table_rounds.proofs.retired.add_placed.Given as goal

abbrev pub invariant-loop-block : goal.invariant-loop-block
invariant-loop-block l = record {
  items : l.patches.items ≡ l.fn.patches.items ++ map (λ b. nth l.places b) (take l.block-index l.blocks);
  len : length l.patches.items ≡ length l.fn.patches.items + l.block-index;
  capacity : vec_capacity l.patches ≡ vec_capacity l.fn.patches;
}
