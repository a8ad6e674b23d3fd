use Rattle.std.proofs.Common.{ap, ◌∙◌, sym, arith, length}
use Rattle.std.specs.Prelude.{◌<◌}
use Rattle.dof_transfer.specs.Held.{Held}
use Rattle.dof_transfer.specs.Exchanges.{bisected}
use Rattle.dof_transfer.specs.Ledgers.{held_of}
use Rattle.dof_transfer.proofs.Exchanging.{bisected-next}
use Rattle.dof_transfer.proofs.ledger.Ledger.bisect_all.Goals as goal

pub loop-patch-preserved : goal.loop-patch-preserved
loop-patch-preserved c =
    let within : c.loop-patch.patch-index < length c.args.born.now = omega arith in
    record {
      held = c.bisect.ensures.held ∙ ap (λ (h : Held). bisected h c.patch-item.result) c.loop-patch.invariant.held ∙ sym (bisected-next (held_of c.args.self.now) c.args.born.now c.loop-patch.patch-index c.patch-item.result within c.patch-item.is);
      sound = c.bisect.ensures.sound;
      kept = λ n there. c.bisect.ensures.kept n (c.loop-patch.invariant.kept n there);
      spare = omega (arith, c.bisect.ensures.spare);
    }
