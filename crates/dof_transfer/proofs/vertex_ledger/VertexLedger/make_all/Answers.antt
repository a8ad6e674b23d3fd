use Rattle.std.proofs.Common.{◌<◌, length, arith}
use Rattle.dof_transfer.specs.VertexLedgers.{vertices_of}
use Rattle.dof_transfer.proofs.VertexKept.{made-next}
use Rattle.dof_transfer.proofs.vertex_ledger.VertexLedger.make_all.Goals as goal

pub loop-patch-preserved : goal.loop-patch-preserved
loop-patch-preserved c =
    let within : c.loop-patch.patch-index < length c.args.born.now = omega arith in
    record {
      made = made-next c.args.mesh.now (vertices_of c.args.self.now) c.args.born.now c.loop-patch.patch-index c.patch-item.result (vertices_of c.loop-patch.self) (vertices_of c.make.new.self) within c.patch-item.is c.loop-patch.invariant.made c.make.ensures.made;
      sound = c.make.ensures.sound;
      small = c.make.ensures.small;
      kept = λ n there. c.make.ensures.kept n (c.loop-patch.invariant.kept n there);
      spare = omega (arith, c.make.ensures.spare);
    }
