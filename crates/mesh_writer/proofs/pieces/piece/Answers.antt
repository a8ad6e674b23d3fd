use Rattle.mesh_writer.proofs.Lines.{next_line}
use Rattle.mesh_writer.proofs.pieces.piece.Goals as goal

pub loop-item-preserved : goal.loop-item-preserved
loop-item-preserved g c = next_line g.L.Line.line c.loop-item.text.items c.put.new.to.items c.args.items.now c.loop-item.item-index c.item-item.result c.item-item.result c.loop-item-test.true c.item-item.is c.loop-item.invariant c.in_ok-put.ensures
