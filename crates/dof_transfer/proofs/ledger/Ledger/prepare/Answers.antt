use Rattle.std.proofs.Common.{arith}
use Rattle.dof_transfer.proofs.ledger.Ledger.prepare.Goals as goal

pub returns-clause-spare : goal.returns-clause-spare
returns-clause-spare c = omega (arith, c.saturating_mul.ensures, c.saturating_add.ensures, c.in_ok-reserve.ensures.spare, c.in_ok-reserve.ensures.small)
