use Rattle.std.proofs.Common.{◌≡◌, take}
use Rattle.std.specs.FinSet.{difference, from_list}
use Rattle.name_tree.specs.Held.{held}
use Rattle.forest_tree.proofs.slots.take_out_all.Given as goal

abbrev pub invariant-loop-name : goal.invariant-loop-name
invariant-loop-name l = held l.tree ≡ difference (held l.fn.tree) (from_list (take l.name-index l.names))
