use Rattle.std.proofs.Common.{◌≡◌, length}
use Rattle.dof_transfer.specs.Held.{worth_of}
use Rattle.name_tree.specs.InOrder.{AreFirst}
use Rattle.dof_transfer.specs.Ledgers.{held_of}
use Rattle.dof_transfer.proofs.ledger.Ledger.values.Given as goal

abbrev pub invariant-loop-place : goal.invariant-loop-place
invariant-loop-place l = record {
  many : length l.values.items ≡ l.place;
  first : AreFirst (worth_of (held_of l.self)) l.names l.values.items;
}
