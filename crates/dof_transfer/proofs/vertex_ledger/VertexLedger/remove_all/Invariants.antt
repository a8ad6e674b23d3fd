use Rattle.std.proofs.Common.{◌≡◌, take}
use Rattle.dof_transfer.specs.Held.{all_given_back}
use Rattle.dof_transfer.specs.Ledgers.{held_of}
use Rattle.dof_transfer.specs.VertexLedgers.{vertices_of}
use Rattle.dof_transfer.specs.VertexValues.{AreSmall, IsVertexSound, owners}
use Rattle.dof_transfer.proofs.vertex_ledger.VertexLedger.remove_all.Given as goal

abbrev pub invariant-loop-patch : goal.invariant-loop-patch
invariant-loop-patch l = record {
  macros : l.self.macros.items ≡ l.fn.self.macros.items;
  removed : held_of l.self.ledger ≡ all_given_back (held_of l.fn.self.ledger) (owners (take l.patch-index l.died));
  sound : IsVertexSound (vertices_of l.self);
  small : AreSmall (vertices_of l.self);
}
