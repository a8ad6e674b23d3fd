use Rattle.compat_check.specs.Meshes.{shape_of}
use Rattle.forest_plain.proofs.Refining.{leaves_in}
use Rattle.forest_tree.proofs.forest.TreeForestForest.leaves.Goals as goal

pub returns-clause-mesh : goal.returns-clause-mesh
returns-clause-mesh c = leaves_in (shape_of c.args.self.now.mesh.now) c.args.self.now.members c.in_ok-found.found.items c.args.self.now.stands.forest c.element_count-checked.ensures.checked.low c.in_ok-found.ensures
