use Rattle.std.proofs.Common.{◌-◌, length}
use Rattle.name_tree.specs.InOrder.{KeepsFirst}
use Rattle.name_tree.specs.Paths.{IsPath}
use Rattle.name_tree.specs.Trees.{pairs_of}
use Rattle.name_tree.proofs.tree.NameTree.append_in_order.Given as goal

abbrev pub invariant-loop-key : goal.invariant-loop-key
invariant-loop-key g l = record {
  path : IsPath (pairs_of l.nodes) l.path;
  first : KeepsFirst g.K.Keyed.named l.self l.keys l.fn.values.items l.values.items;
}

abbrev pub decreases-loop-key : goal.decreases-loop-key
decreases-loop-key g l = length l.keys - length l.values.items
