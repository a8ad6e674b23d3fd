use Rattle.std.proofs.Common.{◌≡◌}
use Rattle.name_tree.specs.Slots.{live_of}
use Rattle.forest_tree.proofs.slots.forget_all.Given as goal

abbrev pub invariant-loop-name : goal.invariant-loop-name
invariant-loop-name l = live_of l.tree ≡ live_of l.fn.tree
