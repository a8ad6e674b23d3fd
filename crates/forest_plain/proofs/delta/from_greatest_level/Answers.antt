use Rattle.std.proofs.Common.{arith}
use Rattle.compat_check.specs.Meshes.{across_in, shape_of}
use Rattle.forest_plain.specs.Deltas.{patches_down}
use Rattle.forest_plain.proofs.LevelOrder.{next_down}
use Rattle.forest_plain.proofs.delta.from_greatest_level.Goals as goal

pub loop-above-preserved : goal.loop-above-preserved
loop-above-preserved c =
    let mesh = shape_of c.args.mesh.now in
    let across = across_in c.args.mesh.now in
    next_down mesh across c.args.owners.now (patches_down mesh across 24 c.args.owners.now) c.loop-above.patches.items c.add_level.new.patches.items c.loop-above.above (omega arith) c.loop-above.invariant c.in_ok-add_level.ensures
