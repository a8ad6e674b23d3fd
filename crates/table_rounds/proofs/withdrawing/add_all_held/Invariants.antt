use Rattle.std.specs.Prelude.{◌≡◌, ◌++◌, take, vec_capacity}
use Rattle.table_rounds.specs.Stocks.{patches_of}
use Rattle.table_rounds.proofs.withdrawing.add_all_held.Given as goal

abbrev pub invariant-loop-held : goal.invariant-loop-held
invariant-loop-held l = record {
  items : l.list.items ≡ l.fn.list.items ++ patches_of (take l.held-index l.claims);
  capacity : vec_capacity l.list ≡ vec_capacity l.fn.list;
}
