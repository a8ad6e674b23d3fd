use Rattle.forest_plain.specs.MarkMaps.{mark_in}
use Rattle.forest_plain.proofs.NeededNames.{next_leaf}
use Rattle.forest_plain.proofs.needs.needed_names.Goals as goal

pub loop-leaf-preserved : goal.loop-leaf-preserved
loop-leaf-preserved c = next_leaf (mark_in c.args.marks.now) c.args.leaves.now c.loop-leaf.needed.items c.add_needed.new.needed.items c.loop-leaf.leaf-index c.leaf-item.result _ c.loop-leaf-test.true c.leaf-item.is c.loop-leaf.invariant c.in_ok-add_needed.ensures
