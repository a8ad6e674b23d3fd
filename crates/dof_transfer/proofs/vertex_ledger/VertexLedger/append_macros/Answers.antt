use Rattle.std.proofs.Common.{ℕ, ◌+◌, ◌∷◌, [], length, sym, ap, ◌∙◌, rules, to_z, of_z}
use Rattle.std.proofs.lemmas.Int.{to_z-of_z}
use Rattle.std.proofs.lemmas.List.{length-append}
use mir.Val.{SFits}
use mir.Syntax.{w64}
use Rattle.dof_transfer.specs.VertexLedgers.{vertices_of}
use Rattle.dof_transfer.specs.VertexValues.{worth}
use Rattle.dof_transfer.proofs.InOrder.{next_first, none_first}
use Rattle.dof_transfer.proofs.vertex_ledger.VertexLedger.append_macros.Goals as goal

pub loop-key-init : goal.loop-key-init
loop-key-init c = record {
  many = ap length c.requires.none;
  first = none_first (worth (vertices_of c.args.self.now)) c.args.keys.now c.args.values.now.items c.requires.none;
}

pub loop-key-preserved : goal.loop-key-preserved
loop-key-preserved c =
    let old = c.loop-key.values.items in
    let key = c.key-item.result in
    let value = c.worth.result in
    let fits : SFits w64 value = search rules in
    record {
      many = ap length c.in_ok-push.ensures.items ∙ length-append old (to_z w64 (of_z w64 value) ∷ []) ∙ ap (λ (n : ℕ). n + 1) c.loop-key.invariant.many;
      first = next_first (worth (vertices_of c.args.self.now)) c.args.keys.now old c.push.new.self.items c.loop-key.key-index key _ c.loop-key.invariant.many c.loop-key-test.true c.key-item.is (sym c.worth.ensures.worth ∙ sym (to_z-of_z w64 value fits)) c.in_ok-push.ensures.items c.loop-key.invariant.first;
    }

pub returns-after-loop-key : goal.returns-after-loop-key
returns-after-loop-key c = c.loop-key.invariant.first

pub returns-in_default : goal.returns-in_default
returns-in_default c = c.loop-key.invariant.first
