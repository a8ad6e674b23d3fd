use Rattle.std.proofs.Common.{rules, ◌<◌, ◌∙◌, ℕ, List, ap, length, set, subst, sym}
use Rattle.name_tree.specs.declared.nodes.Node.{Node}
use Rattle.name_tree.specs.Trees.{node_at}
use Rattle.name_tree.proofs.NodeLists.{length-nodes, nodes-put}
use Rattle.name_tree.proofs.node_list.NodeList.put.Goals as goal

pub index_mut-requires : goal.index_mut-requires
index_mut-requires c =
    let low = subst (λ (k : ℕ). c.args.place < k) (sym (ap length c.self.view_is) ∙ length-nodes c.self.inside.entries.items c.self.inside.pairs.items c.self.invariant) c.requires in
    search rules

pub returns : goal.returns
returns c =
    nodes-put c.self.inside.entries.items c.self.inside.pairs.items c.args.place c.args.entry c.self.invariant
    ∙ ap (λ (l : List Node). set l c.args.place (record (node_at l c.args.place) { entry = c.args.entry })) c.self.view_is
