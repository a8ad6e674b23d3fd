use Rattle.std.proofs.Common.{rules, ◌≡◌, ◌<◌, ◌∙◌, ℕ, List, None, ap, length, subst, sym}
use Rattle.std.proofs.lemmas.List.{get_or_read}
use Rattle.std.specs.Prelude.{slice_index_or}
use Rattle.name_tree.specs.declared.nodes.Node.{Node}
use Rattle.name_tree.specs.Trees.{node_at}
use Rattle.name_tree.proofs.NodeLists.{length-nodes, node-at}
use Rattle.name_tree.proofs.node_list.NodeList.node.Goals as goal

pub index-requires : goal.index-requires
index-requires c =
    let low = subst (λ (k : ℕ). c.args.place < k) (sym (ap length c.self.view_is) ∙ length-nodes c.self.inside.entries.items c.self.inside.pairs.items c.self.invariant) c.requires in
    search rules

pub index-requires-2 : goal.index-requires-2
index-requires-2 c =
    let low = subst (λ (k : ℕ). c.args.place < k) (sym (ap length c.self.view_is) ∙ length-nodes c.self.inside.entries.items c.self.inside.pairs.items c.self.invariant ∙ sym c.self.invariant) c.requires in
    search rules

pub returns : goal.returns
returns c =
    let es = c.self.inside.entries.items in
    let ps = c.self.inside.pairs.items in
    let low = subst (λ (k : ℕ). c.args.place < k) (sym (ap length c.self.view_is) ∙ length-nodes es ps c.self.invariant) c.requires in
    let entry : c.index.result.now ≡ slice_index_or es c.args.place None = get_or_read es c.args.place c.index.result.now low c.index.ensures None in
    let below : c.index-2.result.now ≡ slice_index_or ps c.args.place None = get_or_read ps c.args.place c.index-2.result.now (subst (λ (k : ℕ). c.args.place < k) (sym c.self.invariant) low) c.index-2.ensures None in
    (λ i. record { entry = entry i; below = below i })
    ∙ sym (node-at es ps c.args.place c.self.invariant)
    ∙ ap (λ (l : List Node). node_at l c.args.place) c.self.view_is
