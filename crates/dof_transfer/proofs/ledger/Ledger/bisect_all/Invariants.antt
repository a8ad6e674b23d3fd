use Rattle.std.proofs.Common.{◌≡◌, ◌≤◌, ◌+◌, ◌*◌, take}
use Rattle.dof_transfer.specs.Held.{IsSound}
use Rattle.dof_transfer.specs.Exchanges.{all_bisected}
use Rattle.dof_transfer.specs.Ledgers.{KeepsReady, held_of}
use Rattle.dof_transfer.proofs.ledger.Ledger.bisect_all.Given as goal

abbrev pub invariant-loop-patch : goal.invariant-loop-patch
invariant-loop-patch l = record {
  held : held_of l.self ≡ all_bisected (held_of l.fn.self) (take l.patch-index l.born);
  sound : IsSound (held_of l.self);
  kept : KeepsReady l.fn.self l.self;
  spare : l.fn.self.admin.spare ≤ l.self.admin.spare + 4 * l.patch-index;
}
