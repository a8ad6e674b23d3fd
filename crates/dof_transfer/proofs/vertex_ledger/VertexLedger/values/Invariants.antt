use Rattle.std.proofs.Common.{◌≡◌, length}
use Rattle.name_tree.specs.InOrder.{AreFirst}
use Rattle.dof_transfer.specs.VertexLedgers.{vertices_of}
use Rattle.dof_transfer.specs.VertexValues.{worth}
use Rattle.dof_transfer.proofs.vertex_ledger.VertexLedger.values.Given as goal

abbrev pub invariant-loop-place : goal.invariant-loop-place
invariant-loop-place l = record {
  many : length l.values.items ≡ l.place;
  first : AreFirst (worth (vertices_of l.self)) l.keys l.values.items;
}
