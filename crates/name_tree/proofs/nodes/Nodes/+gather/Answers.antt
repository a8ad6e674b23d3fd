use Rattle.std.proofs.Common.{◌≤◌, false, true, sym, ◌∙◌, arith}
use Rattle.mesh_names.specs.Names.{depth}
use Rattle.name_tree.specs.Trees.{Under, pairs_of}
use Rattle.name_tree.proofs.Found.{child-place, gathers_alone, gathers_both, none_longer, none_under}
use Rattle.name_tree.proofs.SlotsOfNodes.{node-inside}
use Rattle.name_tree.proofs.nodes.Nodes.+gather.Goals as goal

pub add_entry-requires : goal.add_entry-requires
add_entry-requires t c = node-inside c.args.self.now c.args.name c.args.node c.requires.kept c.requires.node

pub returns-then-depth-eq24 : goal.returns-then-depth-eq24
returns-then-depth-eq24 t c =
    let low : depth c.args.name ≤ 24 = omega (arith, c.depth.ensures.depth, c.depth.ensures.small) in
    gathers_alone c.args.self.now c.args.name c.args.node c.requires.node low c.args.found.now.items c.add_entry.new.found.items c.in_ok-add_entry.ensures (none_longer c.args.self.now c.args.name (omega (arith, c.depth.ensures.depth, c.if-depth-eq24.true)))

pub below-requires : goal.below-requires
below-requires t c = node-inside c.args.self.now c.args.name c.args.node c.requires.kept c.requires.node

pub returns-in_default : goal.returns-in_default
returns-in_default t c =
    let low : depth c.args.name ≤ 24 = omega (arith, c.depth.ensures.depth, c.depth.ensures.small) in
    gathers_alone c.args.self.now c.args.name c.args.node c.requires.node low c.args.found.now.items c.add_entry.new.found.items c.in_ok-add_entry.ensures (none_under c.args.self.now c.args.name c.args.node c.requires.node (sym c.below.ensures ∙ c.in_default.is))

pub child_place-requires : goal.child_place-requires
child_place-requires t c =
    let low = c.requires.kept.tree.within (Under c.args.node) c.in-Some.pair (sym c.below.ensures ∙ c.in-Some.is) in
    let few = c.requires.kept.small in
    omega arith

pub gather-requires : goal.gather-requires
gather-requires t c =
    let there = child-place (pairs_of c.args.self.now) c.args.name c.args.node c.in-Some.pair c.child_place.result false c.child_at.result c.requires.node (sym c.below.ensures ∙ c.in-Some.is) c.child_at.ensures c.child_place.ensures in
    search (there, arith)

pub gather-requires-2 : goal.gather-requires-2
gather-requires-2 t c =
    let there = child-place (pairs_of c.args.self.now) c.args.name c.args.node c.in-Some.pair c.child_place-2.result true c.child_at-2.result c.requires.node (sym c.below.ensures ∙ c.in-Some.is) c.child_at-2.ensures c.child_place-2.ensures in
    search (there, arith)

pub returns : goal.returns
returns t c =
    let low : depth c.args.name ≤ 24 = omega (arith, c.depth.ensures.depth, c.depth.ensures.small) in
    gathers_both c.args.self.now c.args.name c.args.node c.requires.node low c.args.found.now.items c.add_entry.new.found.items c.in_ok-add_entry.ensures c.child_at.result c.child_at-2.result _ _ c.child_at.ensures c.child_at-2.ensures c.in_ok-gather.ensures c.in_ok-gather-2.ensures
