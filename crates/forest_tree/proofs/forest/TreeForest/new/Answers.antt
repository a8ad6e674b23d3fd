use Rattle.compat_check.specs.Meshes.{across_in, shape_of}
use Rattle.forest_plain.proofs.Refining.{empty_stands}
use Rattle.forest_tree.proofs.ListedSets.{count-none}
use Rattle.forest_tree.proofs.forest.TreeForest.new.Goals as goal

pub invariant_of-result : goal.invariant_of-result
invariant_of-result c = record {
  stands = empty_stands (shape_of c.args.mesh.now) (across_in c.args.mesh.now) c.args.pool c.new.result c.new.ensures c.requires.0 c.requires.1;
  counted = count-none (across_in c.args.mesh.now) c.new.result c.new.ensures;
}
