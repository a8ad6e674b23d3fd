use Rattle.mesh_writer.specs.Others.{AreOthersBelow}
use Rattle.mesh_writer.proofs.others.others_by_order.Given as goal

abbrev pub invariant-loop-place : goal.invariant-loop-place
invariant-loop-place l = AreOthersBelow l.triples l.place l.others.items
