use Rattle.std.proofs.Common.{◌≡◌, ◌<◌, ◌∙◌, sym, ap, subst, refl, length, ℕ, Option, Some, None, unwrap_or}
use Rattle.std.proofs.Common.{get_or, arith, rules}
use Rattle.std.specs.Prelude.{slice_get}
use Rattle.std.proofs.lemmas.Bool.{ltb-true}
use Rattle.std.proofs.lemmas.Int.{to_z-of_z}
use Rattle.std.proofs.lemmas.Option.{slice_get_read}
use mir.Val.{SFits}
use mir.Syntax.{w64}
use Rattle.name_tree.specs.InOrder.{AreFirst}
use Rattle.name_tree.proofs.InOrders.{first_more, next_worth}
use Rattle.name_tree.specs.Slots.{Slot, Slots, live_at}
use Rattle.name_tree.proofs.SlotsOfNodes.{node-inside, some-slot}
use Rattle.name_tree.proofs.tree.NameTree.append_in_order.Goals as goal

pub entry-requires : goal.entry-requires
entry-requires g c = node-inside c.self.inside.nodes c.in-Some-slot_name.name c.in-Some-find.place c.self.invariant.0 (sym c.in-Some-find.ensures.place)

pub loop-key-preserved : goal.loop-key-preserved
loop-key-preserved g c = record {
  path = c.in-Some-find.ensures.path;
  first = λ worth is first.
      let slots = c.args.self.now in
      let keys = c.args.keys.now in
      let values = c.loop-key.values.items in
      let key = c.in-Some.key.now in
      let name = c.in-Some-slot_name.name in
      let entry = c.in-Some-entry.entry in
      let place = c.in-Some-find.ensures in
      let fits : SFits w64 entry.value = search rules in
      let at : c.len.result ≡ length values = omega (arith, c.len.ensures) in
      let low : length values < length keys = omega (arith, ltb-true c.len.result (length keys) (sym c.in-Some.ensures.lookup.0), at) in
      let read : slice_get keys (length values) ≡ Some key = slice_get_read keys (length keys) (length values) key refl low (c.in-Some.ensures.lookup.1 ∙ ap (λ (i : ℕ). get_or keys i key) at) in
      let told : g.K.Keyed.named key ≡ Some name = sym c.slot_name.ensures ∙ c.in-Some-slot_name.is in
      let stands : live_at slots name ≡ Some entry = ap (λ (x : Slots). live_at x name) (sym c.self.view_is) ∙ ap (λ (o : Option Slot). unwrap_or o None) (some-slot c.self.inside.nodes name c.in-Some-find.place place.low (sym place.place)) ∙ sym c.entry.ensures ∙ c.in-Some-entry.is in
      let value = next_worth g.K.Keyed.named slots worth key name entry is told stands in
      subst (AreFirst worth keys) (sym c.in_ok-push.ensures.items) (first_more worth keys values key read _ (value ∙ sym (to_z-of_z w64 entry.value fits)) (c.loop-key.invariant.first worth is first));
}
