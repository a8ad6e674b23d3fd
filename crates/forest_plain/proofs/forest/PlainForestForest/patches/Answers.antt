use Rattle.compat_check.specs.Meshes.{shape_of}
use Rattle.forest_plain.proofs.Refining.{member_in}
use Rattle.forest_plain.proofs.forest.PlainForestForest.patches.Goals as goal

pub count_patches-requires : goal.count_patches-requires
count_patches-requires c = member_in (shape_of c.args.self.now.mesh.now) c.args.self.now.members c.args.self.now.stands.forest
