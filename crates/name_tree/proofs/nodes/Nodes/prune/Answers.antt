use Rattle.std.proofs.Common.{◌≡◌, arith, sym, Some}
use Rattle.name_tree.specs.Trees.{Under, pairs_of, place}
use Rattle.name_tree.proofs.Places.{adds-kept, leads-left, named-place, place-left, place-within, shrinks-live}
use Rattle.name_tree.proofs.nodes.Nodes.prune.Goals as goal

there : (c : goal.In-Some-find) → place (pairs_of c.args.self.now) c.in-Some.parent.0 c.in-Some.parent.1 ≡ Some c.in-Some-find.place
there c = sym c.in-Some-find.ensures.place

pub below-requires : goal.below-requires
below-requires c =
    let low = place-within (pairs_of c.args.self.now) c.requires.kept.count c.requires.kept.tree.within c.in-Some.parent.0 c.in-Some.parent.1 c.in-Some-find.place (there c) in
    let whole = c.requires.kept.whole in
    omega arith

pub is_blank-requires : goal.is_blank-requires
is_blank-requires c =
    let low = c.requires.kept.tree.within (Under c.in-Some-find.place) c.in-Some-below.pair (sym c.in-Some-below.ensures) in
    let whole = c.requires.kept.whole in
    omega arith

pub part-requires : goal.part-requires
part-requires c = record {
  kept = c.requires.kept;
  named = named-place (pairs_of c.args.self.now) c.in-Some.parent.0 c.in-Some.parent.1 c.in-Some-find.place (sym c.in-Some-find.ensures.place);
  below = sym c.in-Some-below.ensures;
  blank = c.is_blank.ensures c.if-is_blank.true;
}

pub returns-then-is_blank-clause-path : goal.returns-then-is_blank-clause-path
returns-then-is_blank-clause-path c =
    let h = c.part.ensures.shrinks in
    let f = pairs_of c.part.new.self in
    let g = pairs_of c.args.self.now in
    let left = place-left f g (Under c.in-Some-find.place) c.in-Some-below.pair c.in-Some-below.pair c.in-Some.parent c.in-Some-find.place h.adds (sym c.in-Some-find.ensures.place) (sym c.in-Some-below.ensures) in
    let leads = rw c.in-Some-find.ensures.name at c.in-Some-find.ensures.path in
    rw c.in-Some-find.ensures.name (leads-left f g c.in-Some.parent c.in-Some-find.place c.find.new.path.places (adds-kept f g (Under c.in-Some-find.place) c.in-Some-below.pair h.adds) leads left)

pub returns-then-is_blank-clause-same : goal.returns-then-is_blank-clause-same
returns-then-is_blank-clause-same c = shrinks-live c.args.self.now c.part.new.self c.in-Some-find.place c.in-Some-below.pair c.part.ensures.shrinks
