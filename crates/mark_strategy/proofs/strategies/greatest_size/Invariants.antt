use Rattle.std.proofs.Common.{◌≡◌, take}
use Rattle.mark_strategy.specs.Leaves.{greatest}
use Rattle.mark_strategy.proofs.strategies.greatest_size.Given as goal

abbrev pub invariant-loop-leaf : goal.invariant-loop-leaf
invariant-loop-leaf l = l.greatest ≡ greatest (take l.leaf-index l.values)
