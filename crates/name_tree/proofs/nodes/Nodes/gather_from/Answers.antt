use Rattle.std.proofs.Common.{sym, subst, ◌∙◌, arith}
use Rattle.mesh_names.specs.Names.{Name}
use Rattle.name_tree.specs.Held.{Gathers}
use Rattle.name_tree.specs.Trees.{Root, pairs_of}
use Rattle.name_tree.proofs.Found.{none_from, top-place}
use Rattle.name_tree.proofs.nodes.Nodes.gather_from.Goals as goal

pub returns-in_default : goal.returns-in_default
returns-in_default c = none_from c.args.self.now c.args.root c.args.found.now.items (sym c.top.ensures ∙ c.in_default.is)

pub child_place-requires : goal.child_place-requires
child_place-requires c =
    let low = c.requires.kept.tree.within (Root c.args.root) c.in-Some.pair (sym c.top.ensures ∙ c.in-Some.is) in
    let few = c.requires.kept.small in
    omega arith

pub gather-requires-clause-node : goal.gather-requires-clause-node
gather-requires-clause-node c = top-place (pairs_of c.args.self.now) c.args.root c.in-Some.pair c.child_place.result c.top-2.result (sym c.top.ensures ∙ c.in-Some.is) c.top-2.ensures c.child_place.ensures

pub returns : goal.returns
returns c = subst (λ (n : Name). Gathers c.args.self.now n c.args.found.now.items c.gather.new.found.items) c.top-2.ensures c.in_ok-gather.ensures
