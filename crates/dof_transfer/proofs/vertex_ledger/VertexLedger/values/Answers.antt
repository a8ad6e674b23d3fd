use Rattle.std.proofs.Common.{ℕ, ◌+◌, ◌∷◌, [], length, sym, ap, ◌∙◌, arith, rules, to_z, of_z}
use Rattle.std.proofs.lemmas.Int.{to_z-of_z}
use Rattle.std.proofs.lemmas.List.{length-append}
use mir.Val.{SFits}
use mir.Syntax.{w64}
use Rattle.dof_transfer.specs.VertexLedgers.{vertices_of}
use Rattle.dof_transfer.specs.VertexValues.{worth}
use Rattle.dof_transfer.proofs.InOrder.{first_all, key_worth, next_first}
use Rattle.dof_transfer.proofs.vertex_ledger.VertexLedger.values.Goals as goal

pub loop-place-init : goal.loop-place-init
loop-place-init c =
    let ledger = c.args.self.now.ledger in
    record {
      many = omega (arith, c.len-place.ensures);
      first = c.in_ok-append_in_order.ensures (worth (vertices_of c.args.self.now)) (key_worth c.args.self.now.macros.items ledger.entries ledger.admin.flags) c.in_ok-append_macros.ensures;
    }

pub loop-place-preserved : goal.loop-place-preserved
loop-place-preserved c =
    let old = c.loop-place.values.items in
    let key = c.index-keys-place.result in
    let value = c.worth.result in
    let fits : SFits w64 value = search rules in
    record {
      many = ap length c.in_ok-push.ensures.items ∙ length-append old (to_z w64 (of_z w64 value) ∷ []) ∙ ap (λ (n : ℕ). n + 1) c.loop-place.invariant.many;
      first = next_first (worth (vertices_of c.args.self.now)) c.args.keys.now old c.push.new.self.items c.loop-place.place key _ c.loop-place.invariant.many c.loop-place-test.true c.index-keys-place.is (sym c.worth.ensures.worth ∙ sym (to_z-of_z w64 value fits)) c.in_ok-push.ensures.items c.loop-place.invariant.first;
    }

pub returns : goal.returns
returns c = first_all (worth (vertices_of c.args.self.now)) c.args.keys.now c.loop-place.values.items (omega (arith, c.loop-place-test.false, c.loop-place.invariant.many)) c.loop-place.invariant.first
