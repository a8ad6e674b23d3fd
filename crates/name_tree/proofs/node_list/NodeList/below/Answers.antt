use Rattle.std.proofs.Common.{rules, ◌<◌, ◌∙◌, ℕ, List, None, ap, length, subst, sym}
use Rattle.std.proofs.lemmas.List.{get_or_read}
use Rattle.name_tree.specs.declared.nodes.Node.{Node}
use Rattle.name_tree.specs.Trees.{node_at}
use Rattle.name_tree.proofs.NodeLists.{length-nodes, node-at}
use Rattle.name_tree.proofs.node_list.NodeList.below.Goals as goal

inside : (c : goal.After-self) → c.args.place < length c.self.inside.pairs.items
inside c = subst (λ (k : ℕ). c.args.place < k) (sym (ap length c.self.view_is) ∙ length-nodes c.self.inside.entries.items c.self.inside.pairs.items c.self.invariant ∙ sym c.self.invariant) c.requires

pub index-requires : goal.index-requires
index-requires c = let low = inside c in search rules

pub returns : goal.returns
returns c =
    let es = c.self.inside.entries.items in
    let ps = c.self.inside.pairs.items in
    let low = subst (λ (k : ℕ). c.args.place < k) (sym (ap length c.self.view_is) ∙ length-nodes es ps c.self.invariant ∙ sym c.self.invariant) c.requires in
    get_or_read ps c.args.place c.index.result.now low c.index.ensures None
    ∙ ap (λ (n : Node). n.below) (sym (node-at es ps c.args.place c.self.invariant))
    ∙ ap (λ (l : List Node). (node_at l c.args.place).below) c.self.view_is
