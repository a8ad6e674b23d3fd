use Rattle.std.proofs.Common.{ℕ, ◌+◌, ◌∷◌, [], length, sym, ap, ◌∙◌, arith, rules, to_z, of_z}
use Rattle.std.proofs.lemmas.Int.{to_z-of_z}
use Rattle.std.proofs.lemmas.List.{length-append}
use mir.Val.{SFits}
use mir.Syntax.{w64}
use Rattle.dof_transfer.specs.Held.{worth_of}
use Rattle.dof_transfer.specs.Ledgers.{held_of}
use Rattle.dof_transfer.proofs.InOrder.{first_all, name_worth, next_first, none_first}
use Rattle.dof_transfer.proofs.ledger.Ledger.values.Goals as goal

pub loop-place-init : goal.loop-place-init
loop-place-init c =
    let ledger = c.args.self.now in
    let worth = worth_of (held_of ledger) in
    record {
      many = omega (arith, c.len-place.ensures);
      first = c.in_ok-append_in_order.ensures worth (name_worth ledger.entries ledger.admin.flags) (none_first worth c.args.names.now c.try_reserve.new.self.items (c.in_ok-try_reserve.ensures.items ∙ c.new-values.ensures.items));
    }

pub loop-place-preserved : goal.loop-place-preserved
loop-place-preserved c =
    let worth = worth_of (held_of c.args.self.now) in
    let old = c.loop-place.values.items in
    let name = c.index-names-place.result in
    let value = c.worth.result in
    let fits : SFits w64 value = search rules in
    record {
      many = ap length c.in_ok-push.ensures.items ∙ length-append old (to_z w64 (of_z w64 value) ∷ []) ∙ ap (λ (n : ℕ). n + 1) c.loop-place.invariant.many;
      first = next_first worth c.args.names.now old c.push.new.self.items c.loop-place.place name _ c.loop-place.invariant.many c.loop-place-test.true c.index-names-place.is (sym c.worth.ensures ∙ sym (to_z-of_z w64 value fits)) c.in_ok-push.ensures.items c.loop-place.invariant.first;
    }

pub returns : goal.returns
returns c = first_all (worth_of (held_of c.args.self.now)) c.args.names.now c.loop-place.values.items (omega (arith, c.loop-place-test.false, c.loop-place.invariant.many)) c.loop-place.invariant.first
