use Rattle.std.proofs.Common.{rules, ◌≡◌, ◌∙◌, ap, length, sym}
use Rattle.name_tree.proofs.NodeLists.{length-nodes}
use Rattle.name_tree.proofs.node_list.NodeList.len.Goals as goal

pub returns : goal.returns
returns c = let same : length c.self.inside.entries.items ≡ length c.args.self.now = sym (length-nodes c.self.inside.entries.items c.self.inside.pairs.items c.self.invariant) ∙ ap length c.self.view_is in search rules
