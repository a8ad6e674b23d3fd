use Rattle.compat_check.specs.Meshes.{shape_of}
use Rattle.compat_check.specs.Points.{labels}
use Rattle.mesh_writer.proofs.Walking.{next_corners, next_mapped}
use Rattle.mesh_writer.proofs.walk.visit.Goals as goal

pub loop-leaf-preserved : goal.loop-leaf-preserved
loop-leaf-preserved c =
    let mesh = c.args.mesh.now in
    let leaves = c.args.leaves.now in
    let leaf = c.leaf-item.result in
    record {
      walk = c.in_ok-slots.ensures.walk;
      corners = next_corners (shape_of mesh) c.loop-leaf.walk.slots.keys.items c.leaf.new.self.slots.keys.items leaves c.loop-leaf.leaf-index leaf _ c.loop-leaf.corners.items c.push.new.self.items c.in_ok-slots.slots c.loop-leaf-test.true c.leaf-item.is c.in_ok-slots.ensures.grows c.loop-leaf.invariant.corners c.in_ok-slots.ensures.corners c.in_ok-push.ensures.items;
      labels = next_mapped (labels mesh) leaves c.loop-leaf.leaf-index leaf _ c.loop-leaf.labels.items c.push-in-loop-leaf.new.self.items c.in_ok-slots.row c.loop-leaf-test.true c.leaf-item.is c.loop-leaf.invariant.labels c.in_ok-slots.ensures.labels c.in_ok-push-2.ensures.items;
    }
