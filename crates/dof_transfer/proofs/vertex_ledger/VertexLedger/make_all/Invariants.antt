use Rattle.std.proofs.Common.{◌≤◌, ◌+◌, take}
use Rattle.dof_transfer.specs.Ledgers.{KeepsReady}
use Rattle.dof_transfer.specs.VertexLedgers.{vertices_of}
use Rattle.dof_transfer.specs.VertexValues.{AreMade, AreSmall, IsVertexSound}
use Rattle.dof_transfer.proofs.vertex_ledger.VertexLedger.make_all.Given as goal

abbrev pub invariant-loop-patch : goal.invariant-loop-patch
invariant-loop-patch l = record {
  made : AreMade l.mesh (vertices_of l.fn.self) (take l.patch-index l.born) (vertices_of l.self);
  sound : IsVertexSound (vertices_of l.self);
  small : AreSmall (vertices_of l.self);
  kept : KeepsReady l.fn.self.ledger l.self.ledger;
  spare : l.fn.self.ledger.admin.spare ≤ l.self.ledger.admin.spare + l.patch-index;
}
