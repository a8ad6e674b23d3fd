use Rattle.std.proofs.Common.{◌≡◌, [], true, replicate, ap, ◌∙◌, sym, arith}
use Rattle.dof_transfer.specs.Held.{Held, least_unused}
use Rattle.dof_transfer.specs.Ledgers.{held_of}
use Rattle.dof_transfer.proofs.FirstNames.{least-all}
use Rattle.name_tree.proofs.LiveNames.{live-empty}
use Rattle.dof_transfer.proofs.Soundness.{least_is}
use Rattle.dof_transfer.proofs.ledger.Ledger.use_first.Goals as goal

pub loop-index-init : goal.loop-index-init
loop-index-init c = record {
  held = c.in_ok-reserve.ensures.held ∙ ap held_of c.requires ∙ (λ i. record { live = live-empty i; flags = [] });
  spare = omega (arith, c.in_ok-reserve.ensures.spare);
}

pub prove-unreachable-requires : goal.prove-unreachable-requires
prove-unreachable-requires c =
    let flags : c.loop-index.self.admin.flags ≡ replicate c.loop-index.index true = ap (λ (h : Held). h.flags) c.loop-index.invariant.held in
    c.if-prove.true (sym (least_is c.loop-index.self.admin.flags c.get-got.result c.get-got.ensures.least) ∙ ap least_unused flags ∙ least-all c.loop-index.index)
