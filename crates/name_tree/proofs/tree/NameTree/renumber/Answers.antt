use Rattle.std.proofs.Common.{◌∙◌, sym, ap, subst}
use Rattle.name_tree.specs.Paths.{IsPath}
use Rattle.name_tree.specs.Slots.{Slots, live_at, moved_slot}
use Rattle.name_tree.specs.Trees.{Pairs}
use Rattle.name_tree.proofs.SlotsOfNodes.{moved-kept, moved-live, moved-pairs}
use Rattle.name_tree.proofs.tree.NameTree.renumber.Goals as goal

pub invariant_of-self : goal.invariant_of-self
invariant_of-self c =
    let n = c.renumber.ensures in
    (moved-kept c.self.inside.nodes c.renumber.new.self c.args.moved.now n.nodes n.length n.tops c.self.invariant.0 n.spare, subst (λ (f : Pairs). IsPath f c.self.inside.path) (sym (moved-pairs c.self.inside.nodes c.renumber.new.self c.args.moved.now n.nodes n.length n.tops)) c.self.invariant.1)

pub returns : goal.returns
returns c = record {
  live = λ q. let n = c.renumber.ensures in moved-live c.self.inside.nodes c.renumber.new.self c.args.moved.now n.nodes n.length n.tops q ∙ ap (λ (s : Slots). moved_slot c.args.moved.now (live_at s q)) c.self.view_is;
}
