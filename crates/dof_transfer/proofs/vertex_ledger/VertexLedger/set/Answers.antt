use Rattle.std.proofs.Common.{ℤ, sym, subst, w64}
use Rattle.std.proofs.lemmas.Int.{to_z-of_z}
use Rattle.mesh_names.specs.declared.patch.VertexKey.TheVariants.{Patch}
use Rattle.mesh_names.specs.declared.patch.VertexKey.{VertexKey}
use Rattle.dof_transfer.specs.Ledgers.{held_of}
use Rattle.dof_transfer.specs.VertexLedgers.{vertices_of}
use Rattle.dof_transfer.specs.VertexValues.{SetsVertex, VertexHeld}
use Rattle.dof_transfer.proofs.VertexKept.{set-patch}
use Rattle.dof_transfer.proofs.vertex_ledger.VertexLedger.set.Goals as goal

pub returns-in-Patch-clause-set : goal.returns-in-Patch-clause-set
returns-in-Patch-clause-set c =
    let old : VertexHeld = vertices_of c.args.self.now in
    let new : VertexHeld = record { macros = old.macros; patches = held_of c.set.new.self } in
    subst (λ (k : VertexKey). SetsVertex old new k c.args.value) (sym c.in-Patch.is) (subst (λ (z : ℤ). SetsVertex old new (Patch c.in-Patch.owner) z) (to_z-of_z w64 c.args.value c.ranges.value) (set-patch old (held_of c.set.new.self) c.in-Patch.owner _ c.set.ensures.set))
