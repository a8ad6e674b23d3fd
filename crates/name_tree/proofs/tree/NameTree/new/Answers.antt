use Rattle.name_tree.proofs.SlotsOfNodes.{new-slots}
use Rattle.name_tree.proofs.tree.NameTree.new.Goals as goal

pub returns : goal.returns
returns c = new-slots c.new.result c.new.ensures.tops
