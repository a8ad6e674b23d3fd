use Rattle.std.proofs.Common.{◌∙◌, sym, ap, subst, true≢false, Some, is_some}
use Rattle.std.specs.FinMap.{contains_key, insert}
use Rattle.name_tree.specs.Paths.{IsPath}
use Rattle.name_tree.specs.Slots.{Slots}
use Rattle.name_tree.specs.Trees.{Pairs}
use Rattle.name_tree.proofs.SlotsOfNodes.{no-slot, node-inside, put-kept, put-pairs, put-slots}
use Rattle.name_tree.proofs.tree.NameTree.put.Goals as goal

pub put-requires : goal.put-requires
put-requires c = node-inside c.self.inside.nodes c.args.name c.in-Some.place c.self.invariant.0 (sym c.in-Some.ensures.place)

pub invariant_of-self : goal.invariant_of-self
invariant_of-self c =
    let k = c.self.invariant.0 in
    let e = c.in-Some.ensures in
    let n = c.put.ensures in
    (put-kept c.self.inside.nodes c.put.new.self k c.args.name c.in-Some.place (Some c.args.entry) e.low (sym e.place) n.nodes n.tops n.spare, subst (λ (f : Pairs). IsPath f c.find.new.path) (sym (put-pairs c.self.inside.nodes c.put.new.self k c.args.name c.in-Some.place (Some c.args.entry) e.low (sym e.place) n.nodes n.tops)) e.path)

pub returns-in-Some : goal.returns-in-Some
returns-in-Some c =
    let e = c.in-Some.ensures in
    let n = c.put.ensures in
    put-slots c.self.inside.nodes c.put.new.self c.self.invariant.0 c.args.name c.in-Some.place (Some c.args.entry) e.low (sym e.place) n.nodes n.tops ∙ ap (λ (s : Slots). insert s c.args.name (Some c.args.entry)) c.self.view_is

pub returns-in_default : goal.returns-in_default
returns-in_default c = absurd (true≢false (sym c.requires ∙ ap (λ (s : Slots). contains_key s c.args.name) (sym c.self.view_is) ∙ ap is_some (no-slot c.self.inside.nodes c.args.name (sym c.in_default.ensures.place))))
