use Rattle.name_tree.proofs.Found.{FoundBelow}
use Rattle.name_tree.proofs.tree.NameTree.names.Given as goal

abbrev pub invariant-loop-root : goal.invariant-loop-root
invariant-loop-root l = FoundBelow l.self-inside.nodes l.root l.found.items
