use Rattle.std.proofs.Common.{◌≡◌, take}
use Rattle.std.specs.List.{All}
use Rattle.dof_transfer.specs.Ledgers.{HasRoom, KeepsReady, held_of}
use Rattle.dof_transfer.proofs.ledger.Ledger.ready_all.Given as goal

abbrev pub invariant-loop-name : goal.invariant-loop-name
invariant-loop-name l = record {
  held : held_of l.self ≡ held_of l.fn.self;
  admin : l.self.admin ≡ l.fn.self.admin;
  kept : KeepsReady l.fn.self l.self;
  room : All (HasRoom l.self) (take l.name-index l.names);
}
