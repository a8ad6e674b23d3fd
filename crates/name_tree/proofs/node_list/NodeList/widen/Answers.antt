use Rattle.std.proofs.Common.{◌≡◌, ◌∙◌, ◌++◌, ◌∷◌, [], ℕ, List, Option, None, ap}
use Rattle.name_tree.specs.declared.nodes.Entry.{Entry}
use Rattle.name_tree.specs.declared.nodes.Node.{Node}
use Rattle.name_tree.specs.NodeLists.{nodes_of}
use Rattle.name_tree.specs.Trees.{blank}
use Rattle.name_tree.proofs.NodeLists.{nodes-widen}
use Rattle.name_tree.proofs.node_list.NodeList.widen.Goals as goal

pub returns-clause-ok : goal.returns-clause-ok
returns-clause-ok c =
    let entries : c.push_reserved-2.new.self.items ≡ (c.self.inside.entries.items ++ None ∷ []) ++ None ∷ [] =
    c.push_reserved-2.ensures.items ∙ ap (λ (l : List (Option Entry)). l ++ None ∷ []) (c.push_reserved.ensures.items ∙ ap (λ (l : List (Option Entry)). l ++ None ∷ []) c.try_reserve.ensures.items) in
    let pairs : c.push_reserved-4.new.self.items ≡ (c.self.inside.pairs.items ++ None ∷ []) ++ None ∷ [] =
    c.push_reserved-4.ensures.items ∙ ap (λ (l : List (Option ℕ)). l ++ None ∷ []) (c.push_reserved-3.ensures.items ∙ ap (λ (l : List (Option ℕ)). l ++ None ∷ []) c.try_reserve-2.ensures.items) in
    (λ i. nodes_of (entries i) (pairs i))
    ∙ nodes-widen c.self.inside.entries.items c.self.inside.pairs.items c.self.invariant
    ∙ ap (λ (l : List Node). l ++ blank ∷ blank ∷ []) c.self.view_is
