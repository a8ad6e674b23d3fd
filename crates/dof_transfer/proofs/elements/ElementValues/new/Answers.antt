use Rattle.dof_transfer.proofs.FirstNames.{first-sized}
use Rattle.dof_transfer.proofs.elements.ElementValues.new.Goals as goal

pub invariant_of-result : goal.invariant_of-result
invariant_of-result c = (c.in_ok-ledger.ensures.sound, first-sized _ _ _ c.in_ok-ledger.ensures)

pub returns : goal.returns
returns c = record { live = c.in_ok-ledger.ensures.live; used = c.in_ok-ledger.ensures.used }
