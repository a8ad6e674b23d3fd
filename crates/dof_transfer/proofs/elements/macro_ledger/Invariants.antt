use Rattle.std.proofs.Common.{◌+◌, ◌≤◌}
use Rattle.dof_transfer.specs.Ledgers.{held_of}
use Rattle.dof_transfer.specs.Macros.{HoldsFirst}
use Rattle.dof_transfer.proofs.elements.macro_ledger.Given as goal

abbrev pub invariant-loop-element : goal.invariant-loop-element
invariant-loop-element l = record {
  first : HoldsFirst l.mesh l.element (held_of l.ledger);
  spare : l.count ≤ l.element + l.ledger.admin.spare;
}
