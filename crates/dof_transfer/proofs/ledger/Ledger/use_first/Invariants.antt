use Rattle.std.proofs.Common.{◌≡◌, ◌≤◌, ◌+◌, true, replicate}
use Rattle.std.specs.FinMap.{empty}
use Rattle.dof_transfer.specs.Ledgers.{held_of}
use Rattle.dof_transfer.proofs.ledger.Ledger.use_first.Given as goal

abbrev pub invariant-loop-index : goal.invariant-loop-index
invariant-loop-index l = record {
  held : held_of l.self ≡ record { live = empty; flags = replicate l.index true };
  spare : l.count ≤ l.index + l.self.admin.spare;
}
