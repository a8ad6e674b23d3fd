use Rattle.std.proofs.Common.{◌≡◌, map, take}
use Rattle.std.specs.List.{AllZip}
use Rattle.compat_check.specs.Meshes.{shape_of}
use Rattle.compat_check.specs.Points.{labels}
use Rattle.mesh_writer.specs.Walks.{HoldLeaf, IsWalk}
use Rattle.mesh_writer.proofs.walk.visit.Given as goal

abbrev pub invariant-loop-leaf : goal.invariant-loop-leaf
invariant-loop-leaf l = record {
  walk : IsWalk l.mesh l.walk;
  corners : AllZip (HoldLeaf (shape_of l.mesh) l.walk.slots.keys.items) (take l.leaf-index l.leaves) l.corners.items;
  labels : l.labels.items ≡ map (labels l.mesh) (take l.leaf-index l.leaves);
}
