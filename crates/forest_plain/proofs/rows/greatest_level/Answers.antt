use Rattle.compat_check.specs.Meshes.{shape_of}
use Rattle.forest_plain.proofs.RowOrder.{greatest_next, all_taken}
use Rattle.mesh_names.specs.Triangles.{level}
use Rattle.std.proofs.Common.{◌≤◌}
use Rattle.forest_plain.proofs.rows.greatest_level.Goals as goal

pub loop-leaf-preserved : goal.loop-leaf-preserved
loop-leaf-preserved c = let i = c.loop-leaf.invariant in greatest_next (shape_of c.args.mesh.now) c.args.leaves.now c.loop-leaf.leaf-index i.0 c.loop-leaf.greatest c.level.result c.max-greatest.result c.leaf-item.result _ c.loop-leaf-test.true c.leaf-item.is c.level.ensures.level c.max-greatest.ensures i.1 i.2 i.3

pub returns : goal.returns
returns c = let i = c.loop-leaf.invariant in record {
  place = i.0;
  within = i.1;
  reached = i.2;
  all = all_taken (λ n. level (shape_of c.args.mesh.now) n ≤ c.loop-leaf.greatest) c.args.leaves.now c.loop-leaf.leaf-index c.loop-leaf-test.false i.3;
}
