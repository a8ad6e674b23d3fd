use Rattle.std.proofs.Common.{◌≡◌, ◌∙◌, sym, arith, length, take, get_or, ℕ, ℤ, pos, ◌+◌, w64, rules}
use Rattle.std.specs.Prelude.{◌<◌}
use Rattle.std.proofs.lemmas.Int.{to_z-of_z}
use Rattle.dof_transfer.specs.Held.{Held, all_taken, taken}
use Rattle.mesh_names.specs.Names.{Name}
use Rattle.dof_transfer.specs.Exchanges.{with_values}
use Rattle.dof_transfer.specs.Ledgers.{held_of}
use Rattle.dof_transfer.proofs.Exchanging.{get_or-other, taken-next}
use Rattle.dof_transfer.proofs.ledger.Ledger.settle.Goals as goal

pub loop-at-preserved : goal.loop-at-preserved
loop-at-preserved c =
    let h0 : Held = held_of c.args.self.now in
    let i : ℕ = c.loop-at.at in
    let n : Name = c.index-names-at.result in
    let v : ℤ = get_or c.args.values.now i (pos 0) in
    let within : i < length c.args.names.now = omega arith in
    let here : v ≡ get_or c.args.values.now i v = get_or-other c.args.values.now i (pos 0) v (omega (arith, c.requires.each)) in
    let next : all_taken h0 (with_values (take (i + 1) c.args.names.now) (take (i + 1) c.args.values.now)) ≡ taken (all_taken h0 (with_values (take i c.args.names.now) (take i c.args.values.now))) n v =
    taken-next h0 c.args.names.now c.args.values.now i n v c.requires.each within c.index-names-at.is here in
    record {
      held = c.take.ensures.held ∙ (λ j. taken (c.loop-at.invariant.held j) n (to_z-of_z w64 v (search rules) j)) ∙ sym next;
      sound = c.take.ensures.sound;
      kept = λ q there. c.take.ensures.kept q (c.loop-at.invariant.kept q there);
      spare = omega (arith, c.take.ensures.spare);
    }
