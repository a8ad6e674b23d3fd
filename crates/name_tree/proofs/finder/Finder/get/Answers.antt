use Rattle.std.proofs.Common.{◌∙◌, sym, ap, Option, None, unwrap_or}
use Rattle.name_tree.specs.Slots.{Slot, Slots, live_at}
use Rattle.name_tree.proofs.SlotsOfNodes.{no-slot, node-inside, some-slot}
use Rattle.name_tree.proofs.finder.Finder.get.Goals as goal

pub returns-in_err-place-clause-value : goal.returns-in_err-place-clause-value
returns-in_err-place-clause-value c = c.from_residual.ensures ∙ ap (λ (o : Option Slot). unwrap_or o None) (sym (no-slot c.self.inside.nodes.now c.args.name (sym c.in_err-place.ensures.place))) ∙ ap (λ (s : Slots). live_at s c.args.name) c.self.view_is

pub entry-requires : goal.entry-requires
entry-requires c = node-inside c.self.inside.nodes.now c.args.name c.in_ok-place.place c.self.invariant.0 (sym c.in_ok-place.ensures.place)

pub returns-clause-value : goal.returns-clause-value
returns-clause-value c = c.entry.ensures ∙ ap (λ (o : Option Slot). unwrap_or o None) (sym (some-slot c.self.inside.nodes.now c.args.name c.in_ok-place.place c.in_ok-place.ensures.low (sym c.in_ok-place.ensures.place))) ∙ ap (λ (s : Slots). live_at s c.args.name) c.self.view_is
