use Rattle.std.proofs.Common.{List, sym, subst, ap, ◌∙◌, arith}
use Rattle.std.proofs.lemmas.List.Filters.{dedup_is}
use Rattle.mesh_names.specs.Names.{Name, name_eq}
use Rattle.mesh_names.specs.Forests.{Has, IsListOf, Names}
use Rattle.name_tree.specs.Held.{held}
use Rattle.name_tree.specs.Slots.{Slots}
use Rattle.name_tree.proofs.Found.{FoundBelow, all-found, listed, more-found, none-found}
use Rattle.name_tree.proofs.tree.NameTree.names.Goals as goal

pub loop-root-init : goal.loop-root-init
loop-root-init c = subst (λ (l : List Name). FoundBelow c.self.inside.nodes 0 l) (sym c.new-found.ensures.items) (none-found c.self.inside.nodes)

pub loop-root-preserved : goal.loop-root-preserved
loop-root-preserved c = more-found c.self.inside.nodes c.loop-root.root c.loop-root.found.items c.gather_from.new.found.items c.loop-root.invariant c.in_ok-gather_from.ensures

pub returns : goal.returns
returns c =
    let whole = all-found c.self.inside.nodes c.loop-root.root c.loop-root.found.items c.loop-root.invariant
    (λ n h. let low = c.requires.below n (subst (λ (s : Slots). Has (held s) n) c.self.view_is h) in omega (arith, low, c.loop-root-test.false)) in
    subst (λ (s : Names). IsListOf s c.dedup.new.self.items) (whole ∙ ap held c.self.view_is)
    (listed c.loop-root.found.items _ c.dedup.new.self.items c.sort_unstable.ensures.permutation c.sort_unstable.ensures.sorted (dedup_is name_eq _ _ c.dedup.ensures.filtered))
