use Rattle.std.proofs.Common.{◌≡◌, ◌-◌, ◌+◌, length}
use Rattle.name_tree.specs.Trees.{Source, pairs_of}
use Rattle.name_tree.proofs.nodes.Nodes.reach.Given as goal

abbrev pub invariant-loop-self : goal.invariant-loop-self
invariant-loop-self l = record {
  nodes : l.self.nodes ≡ l.fn.self.nodes;
  spare : l.self.spare.items ≡ l.fn.self.spare.items;
  pairs : (s : Source) → pairs_of l.self s ≡ pairs_of l.fn.self s;
}

abbrev pub decreases-loop-self : goal.decreases-loop-self
decreases-loop-self l = l.root + 1 - length l.self.tops.items
