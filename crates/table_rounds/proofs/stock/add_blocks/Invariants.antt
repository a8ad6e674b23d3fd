use Rattle.std.specs.Prelude.{◌≡◌, ◌+◌, ◌++◌, length, take, vec_capacity}
use Rattle.table_rounds.specs.Stocks.{blocks_of}
use Rattle.table_rounds.proofs.stock.add_blocks.Given as goal

abbrev pub invariant-loop-patch : goal.invariant-loop-patch
invariant-loop-patch l = record {
  items : l.hand.items ≡ l.fn.hand.items ++ blocks_of (take l.patch-index l.patches);
  len : length l.hand.items ≡ length l.fn.hand.items + l.patch-index;
  capacity : vec_capacity l.hand ≡ vec_capacity l.fn.hand;
}
