use Rattle.std.proofs.Common.{◌≡◌, ◌≤◌, take, map}
use Rattle.std.specs.Prelude.{vec_capacity}
use Rattle.dof_transfer.specs.Held.{AreSized, IsSound, all_given_back}
use Rattle.dof_transfer.specs.Exchanges.{children, sum_in}
use Rattle.dof_transfer.specs.Ledgers.{KeepsReady, held_of}
use Rattle.dof_transfer.proofs.ledger.Ledger.gather.Given as goal

abbrev pub invariant-loop-name : goal.invariant-loop-name
invariant-loop-name l = record {
  held : held_of l.self ≡ all_given_back (held_of l.fn.self) (children (take l.name-index l.names));
  sums : l.sums.items ≡ map (sum_in (held_of l.fn.self)) (take l.name-index l.names);
  sound : IsSound (held_of l.self);
  sized : AreSized (held_of l.self);
  kept : KeepsReady l.fn.self l.self;
  spare : l.fn.self.admin.spare ≤ l.self.admin.spare;
  capacity : vec_capacity l.sums ≡ vec_capacity l.fn.sums;
}
