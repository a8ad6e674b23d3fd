use Rattle.std.proofs.Common.{◌+◌, ap, ◌∙◌, sym, subst, arith, pos, w64, rules}
use Rattle.std.proofs.lemmas.Int.{to_z-of_z}
use Rattle.std.proofs.lemmas.Option.{get_or_from_slice_get}
use Rattle.dof_admin.specs.Administration.{Administration}
use Rattle.dof_transfer.specs.declared.ledger.Ledger.{Ledger}
use Rattle.dof_transfer.specs.Held.{IsSound, taken}
use Rattle.dof_transfer.specs.Ledgers.{held_of}
use Rattle.dof_transfer.specs.Macros.{HoldsFirst}
use Rattle.dof_transfer.proofs.FirstNames.{first-taken, first-none}
use Rattle.dof_transfer.proofs.elements.macro_ledger.Goals as goal

pub loop-element-init : goal.loop-element-init
loop-element-init c = record {
  first = first-none c.args.mesh.now (record { entries = c.new-ledger.result.entries; admin = c.reserve.new.self }) (ap (λ (l : Ledger). l.entries) c.new-ledger.ensures) (c.in_ok-reserve.ensures.flags ∙ ap (λ (l : Ledger). l.admin.flags) c.new-ledger.ensures);
  spare = omega (arith, c.in_ok-reserve.ensures.room);
}

pub take-requires-clause-sound : goal.take-requires-clause-sound
take-requires-clause-sound c = subst IsSound (sym c.in_ok-ready.ensures.held) c.loop-element.invariant.first.sound

pub loop-element-preserved : goal.loop-element-preserved
loop-element-preserved c =
    let value = sym (get_or_from_slice_get c.args.mesh.now.values c.loop-element.element c.element_value.result (pos 0) c.element_value.ensures.value) in
    let next = first-taken c.args.mesh.now c.loop-element.element (held_of c.loop-element.ledger) c.element_value.result c.loop-element.invariant.first value c.element_value.ensures.small in
    let step = c.take.ensures.held
    ∙ (λ i. taken (c.in_ok-ready.ensures.held i) (c.top-name.ensures i) (to_z-of_z w64 c.element_value.result (search rules) i)) in
    record {
      first = subst (HoldsFirst c.args.mesh.now (c.loop-element.element + 1)) (sym step) next;
      spare = omega (arith, c.take.ensures.spare, ap (λ (a : Administration). a.spare) c.in_ok-ready.ensures.spare);
    }
