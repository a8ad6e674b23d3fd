use Rattle.std.proofs.Common.{◌∙◌, sym, ap, subst, Option, None, unwrap_or}
use Rattle.std.specs.FinMap.{contains_key, insert, remove}
use Rattle.name_tree.specs.NodeSlots.{slots_of}
use Rattle.name_tree.specs.Paths.{IsPath}
use Rattle.name_tree.specs.Slots.{Slot, Slots, live_at, live_of}
use Rattle.name_tree.specs.Trees.{Pairs}
use Rattle.name_tree.proofs.LiveNames.{get-live, kept-insert, live-emptied, remove-absent}
use Rattle.name_tree.proofs.SlotsOfNodes.{no-slot, node-inside, put-kept, put-pairs, put-slots, some-slot}
use Rattle.name_tree.proofs.tree.NameTree.take_out.Goals as goal

pub returns-in_err-place-clause-value : goal.returns-in_err-place-clause-value
returns-in_err-place-clause-value c = c.from_residual.ensures ∙ ap (λ (o : Option Slot). unwrap_or o None) (sym (no-slot c.self.inside.nodes c.args.name (sym c.in_err-place.ensures.place))) ∙ ap (λ (s : Slots). live_at s c.args.name) c.self.view_is

pub returns-in_err-place-clause-live : goal.returns-in_err-place-clause-live
returns-in_err-place-clause-live c =
    let slots = slots_of c.self.inside.nodes in
    let none = get-live slots c.args.name ∙ ap (λ (o : Option Slot). unwrap_or o None) (no-slot c.self.inside.nodes c.args.name (sym c.in_err-place.ensures.place)) in
    sym (remove-absent (live_of slots) c.args.name none) ∙ ap (λ (s : Slots). remove (live_of s) c.args.name) c.self.view_is

pub entry-old-requires : goal.entry-old-requires
entry-old-requires c = node-inside c.self.inside.nodes c.args.name c.in_ok-place.place c.self.invariant.0 (sym c.in_ok-place.ensures.place)

pub put-requires : goal.put-requires
put-requires c = node-inside c.self.inside.nodes c.args.name c.in_ok-place.place c.self.invariant.0 (sym c.in_ok-place.ensures.place)

pub invariant_of-self-2 : goal.invariant_of-self-2
invariant_of-self-2 c =
    let k = c.self.invariant.0 in
    let e = c.in_ok-place.ensures in
    let n = c.put.ensures in
    (put-kept c.self.inside.nodes c.put.new.self k c.args.name c.in_ok-place.place None e.low (sym e.place) n.nodes n.tops n.spare, subst (λ (f : Pairs). IsPath f c.find.new.path) (sym (put-pairs c.self.inside.nodes c.put.new.self k c.args.name c.in_ok-place.place None e.low (sym e.place) n.nodes n.tops)) e.path)

pub returns-clause-value : goal.returns-clause-value
returns-clause-value c = c.entry-old.ensures ∙ ap (λ (o : Option Slot). unwrap_or o None) (sym (some-slot c.self.inside.nodes c.args.name c.in_ok-place.place c.in_ok-place.ensures.low (sym c.in_ok-place.ensures.place))) ∙ ap (λ (s : Slots). live_at s c.args.name) c.self.view_is

pub returns-clause-live : goal.returns-clause-live
returns-clause-live c =
    let e = c.in_ok-place.ensures in
    let n = c.put.ensures in
    ap live_of (put-slots c.self.inside.nodes c.put.new.self c.self.invariant.0 c.args.name c.in_ok-place.place None e.low (sym e.place) n.nodes n.tops ∙ ap (λ (s : Slots). insert s c.args.name None) c.self.view_is)
    ∙ live-emptied c.args.self.now c.args.name

pub returns-clause-kept : goal.returns-clause-kept
returns-clause-kept c = λ q there.
    let e = c.in_ok-place.ensures in
    let n = c.put.ensures in
    ap (λ (s : Slots). contains_key s q) (put-slots c.self.inside.nodes c.put.new.self c.self.invariant.0 c.args.name c.in_ok-place.place None e.low (sym e.place) n.nodes n.tops ∙ ap (λ (s : Slots). insert s c.args.name None) c.self.view_is)
    ∙ kept-insert c.args.self.now c.args.name q None there
