use Rattle.std.proofs.Common.{◌≡◌, ◌≤◌, ◌+◌, take}
use Rattle.dof_transfer.specs.Held.{IsSound, all_taken}
use Rattle.dof_transfer.specs.Exchanges.{with_values}
use Rattle.dof_transfer.specs.Ledgers.{KeepsReady, held_of}
use Rattle.dof_transfer.proofs.ledger.Ledger.settle.Given as goal

abbrev pub invariant-loop-at : goal.invariant-loop-at
invariant-loop-at l = record {
  held : held_of l.self ≡ all_taken (held_of l.fn.self) (with_values (take l.at l.names) (take l.at l.values));
  sound : IsSound (held_of l.self);
  kept : KeepsReady l.fn.self l.self;
  spare : l.fn.self.admin.spare ≤ l.self.admin.spare + l.at;
}
