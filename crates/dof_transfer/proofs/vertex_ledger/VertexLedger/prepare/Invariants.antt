use Rattle.std.proofs.Common.{◌≡◌, take}
use Rattle.std.specs.List.{All}
use Rattle.mesh_names.specs.declared.patch.PatchName.{PatchName}
use Rattle.dof_transfer.specs.Ledgers.{HasRoom, held_of}
use Rattle.dof_transfer.proofs.vertex_ledger.VertexLedger.prepare.Given as goal

abbrev pub invariant-loop-patch : goal.invariant-loop-patch
invariant-loop-patch l = record {
  macros : l.self.macros ≡ l.fn.self.macros;
  held : held_of l.self.ledger ≡ held_of l.fn.self.ledger;
  room : All (λ (p : PatchName). HasRoom l.self.ledger p.first) (take l.patch-index l.born);
}
