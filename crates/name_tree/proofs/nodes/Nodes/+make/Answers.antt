use Rattle.std.proofs.Common.{◌≡◌, sym, ap, ◌∙◌, subst, arith, ℕ, ◌+◌, length, set, Some, ◌∷◌}
use Rattle.mesh_names.specs.Names.{Name, depth}
use Rattle.name_tree.specs.Trees.{LeadsTo, Under, pairs_of, place}
use Rattle.name_tree.proofs.Places.{grows-keeps, keeps-path, keeps-then, leads-child, named-place, place-kept, stays-keeps, to_child}
use Rattle.name_tree.proofs.nodes.Nodes.+make.Goals as goal

pub returns-in_err-pair-clause-path : goal.returns-in_err-pair-clause-path
returns-in_err-pair-clause-path t c = keeps-path c.args.self.now c.plant.new.self c.find.new.path (stays-keeps c.args.self.now c.plant.new.self c.in_err-pair.ensures.err) c.find.ensures.path

pub returns-in_err-pair-clause-same : goal.returns-in_err-pair-clause-same
returns-in_err-pair-clause-same t c = stays-keeps c.args.self.now c.plant.new.self c.in_err-pair.ensures.err

pub returns-in_default-split-clause-same : goal.returns-in_default-split-clause-same
returns-in_default-split-clause-same t c = grows-keeps c.args.self.now c.plant.new.self _ c.in_ok-pair.pair c.in_ok-pair.ensures.ok

pub pair_below-requires-clause-named : goal.pair_below-requires-clause-named
pair_below-requires-clause-named t c = named-place (pairs_of c.make.new.self) c.in-Some-split.above.0.0 c.in-Some-split.above.0.1 c.in_ok-place.place c.in_ok-place.ensures.at

pub returns-in_err-pair-2-clause-path : goal.returns-in_err-pair-2-clause-path
returns-in_err-pair-2-clause-path t c = keeps-path c.make.new.self c.pair_below.new.self c.make.new.path c.in_err-pair-2.ensures.same c.in_ok-place.ensures.path

pub returns-in_err-pair-2-clause-same : goal.returns-in_err-pair-2-clause-same
returns-in_err-pair-2-clause-same t c = keeps-then c.args.self.now c.make.new.self c.pair_below.new.self c.in_ok-place.ensures.same c.in_err-pair-2.ensures.same

pub child_place-place-requires : goal.child_place-place-requires
child_place-place-requires t c =
    let k = c.in_ok-pair-2.ensures.kept in
    let low = k.tree.within (Under c.in_ok-place.place) c.in_ok-pair-2.pair c.in_ok-pair-2.ensures.below in
    let few = k.small in
    omega arith

pub returns-clause-same : goal.returns-clause-same
returns-clause-same t c = keeps-then c.args.self.now c.make.new.self c.pair_below.new.self c.in_ok-place.ensures.same c.in_ok-pair-2.ensures.same

pub returns-clause-path : goal.returns-clause-path
returns-clause-path t c =
    let pairs = pairs_of c.pair_below.new.self in
    let parent = c.in-Some-split.above.0 in
    let side = c.in-Some-split.above.1 in
    let name = c.args.name in
    let e : name ≡ (parent.0, side ∷ parent.1) = c.in-Some-split.ensures in
    let path = keeps-path c.make.new.self c.pair_below.new.self c.make.new.path c.in_ok-pair-2.ensures.same c.in_ok-place.ensures.path in
    let leads : LeadsTo pairs parent (depth parent) c.make.new.path.places = rw c.in_ok-place.ensures.name at path in
    let there = place-kept (pairs_of c.make.new.self) pairs c.in_ok-pair-2.ensures.same.pairs parent.0 parent.1 c.in_ok-place.place c.in_ok-place.ensures.at in
    let deep : depth name ≡ length parent.1 + 1 = omega (arith, ap depth e) in
    let at : c.depth.result ≡ length parent.1 + 1 = c.depth.ensures.depth ∙ deep in
    let few = c.depth.ensures.small in
    let inner = leads-child pairs parent.0 c.in_ok-place.place c.in_ok-pair-2.pair c.child_place-place.result side parent.1 c.make.new.path.places leads there c.in_ok-pair-2.ensures.below c.child_place-place.ensures (omega arith) in
    subst (λ (n : Name). LeadsTo pairs n (depth name) (set c.make.new.path.places c.depth.result c.child_place-place.result)) (sym e) (subst (λ (k : ℕ). LeadsTo pairs (parent.0, side ∷ parent.1) k (set c.make.new.path.places c.depth.result c.child_place-place.result)) (sym deep) (subst (λ (k : ℕ). LeadsTo pairs (parent.0, side ∷ parent.1) (length parent.1 + 1) (set c.make.new.path.places k c.child_place-place.result)) (sym at) inner))

pub returns-clause-at : goal.returns-clause-at
returns-clause-at t c =
    let pairs = pairs_of c.pair_below.new.self in
    let parent = c.in-Some-split.above.0 in
    let side = c.in-Some-split.above.1 in
    let e : c.args.name ≡ (parent.0, side ∷ parent.1) = c.in-Some-split.ensures in
    let there = place-kept (pairs_of c.make.new.self) pairs c.in_ok-pair-2.ensures.same.pairs parent.0 parent.1 c.in_ok-place.place c.in_ok-place.ensures.at in
    subst (λ (n : Name). place pairs n.0 n.1 ≡ Some c.child_place-place.result) (sym e) (to_child pairs parent.0 c.in_ok-place.place c.in_ok-pair-2.pair side parent.1 there c.in_ok-pair-2.ensures.below ∙ ap Some (sym c.child_place-place.ensures))
