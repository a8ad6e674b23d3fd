use Rattle.std.specs.Prelude.{◌≡◌, ◌+◌, ◌++◌, length, take, vec_capacity}
use Rattle.table_rounds.proofs.finishing.add_patches.Given as goal

abbrev pub invariant-loop-patch : goal.invariant-loop-patch
invariant-loop-patch l = record {
  items : l.list.items ≡ l.fn.list.items ++ take l.patch-index l.patches;
  len : length l.list.items ≡ length l.fn.list.items + l.patch-index;
  capacity : vec_capacity l.list ≡ vec_capacity l.fn.list;
}
