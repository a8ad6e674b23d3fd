use Rattle.std.proofs.Common.{arith, sym, ap, ◌∙◌, subst}
use Rattle.name_tree.specs.declared.nodes.Node.{Node}
use Rattle.name_tree.specs.Trees.{Pairs, Under, pairs_of}
use Rattle.name_tree.specs.Growth.{Adds, IsNamed}
use Rattle.name_tree.proofs.MorePairs.{joined-adds, joined-empty, joined-entries, joined-kept, named-within, pairs-same}
use Rattle.name_tree.proofs.nodes.Nodes.sprout.Goals as goal

pub join-requires : goal.join-requires
join-requires c =
    let k = c.in_ok-pair.ensures.kept in
    let e = c.in_ok-pair.ensures in
    let same = pairs-same c.args.self.now.tops.items c.fresh.new.self.tops.items c.args.self.now.nodes c.fresh.new.self.nodes e.tops e.nodes in
    let low = named-within (pairs_of c.fresh.new.self) c.args.place k.count k.tree.within (subst (λ (f : Pairs). IsNamed f c.args.place) (sym same) c.requires.named) in
    let whole = k.whole in
    omega arith

pub returns-clause-kept : goal.returns-clause-kept
returns-clause-kept c =
    let k = c.in_ok-pair.ensures in
    let none = ap (λ (x : Node). x.below) (k.nodes c.args.place) ∙ c.requires.none in
    let j = c.join.ensures in
    let same = pairs-same c.args.self.now.tops.items c.fresh.new.self.tops.items c.args.self.now.nodes c.fresh.new.self.nodes k.tops k.nodes in
    joined-kept c.fresh.new.self c.join.new.self c.args.place c.in_ok-pair.pair k.kept (subst (λ (f : Pairs). IsNamed f c.args.place) (sym same) c.requires.named) none k.free j.nodes j.tops j.spare

pub returns-clause-ok : goal.returns-clause-ok
returns-clause-ok c =
    let k = c.in_ok-pair.ensures in
    let none = ap (λ (x : Node). x.below) (k.nodes c.args.place) ∙ c.requires.none in
    let j = c.join.ensures in
    let same = pairs-same c.args.self.now.tops.items c.fresh.new.self.tops.items c.args.self.now.nodes c.fresh.new.self.nodes k.tops k.nodes in
    let n = subst (λ (f : Pairs). IsNamed f c.args.place) (sym same) c.requires.named in
    let inside = k.free.inside in
    let whole = k.kept.whole in
    let few = k.kept.small in
    record {
      adds = subst (λ (f : Pairs). Adds f (pairs_of c.join.new.self) (Under c.args.place) c.in_ok-pair.pair) same (joined-adds c.fresh.new.self c.join.new.self c.args.place c.in_ok-pair.pair k.kept n none k.free j.nodes j.tops j.spare);
      small = omega arith;
      entries = λ i. joined-entries c.fresh.new.self c.join.new.self c.args.place c.in_ok-pair.pair k.kept n none k.free j.nodes j.tops j.spare i ∙ ap (λ (x : Node). x.entry) (k.nodes i);
      empty = joined-empty c.fresh.new.self c.join.new.self c.args.place c.in_ok-pair.pair k.kept n none k.free j.nodes j.tops j.spare;
    }
