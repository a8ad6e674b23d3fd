use Rattle.std.proofs.Common.{List, subst, sym}
use Rattle.mesh_names.specs.Names.{Name}
use Rattle.mesh_names.specs.Forests.{IsListOf}
use Rattle.compat_check.specs.Meshes.{shape_of}
use Rattle.forest_plain.proofs.Refining.{members_in}
use Rattle.forest_tree.proofs.forest.TreeForest.patches_from_nothing.Goals as goal

pub born_patches-requires : goal.born_patches-requires
born_patches-requires c = members_in (shape_of c.args.self.now.mesh.now) c.args.self.now.members c.deref.result.now c.args.self.now.stands.forest (subst (λ (l : List Name). IsListOf c.args.self.now.members l) (sym c.deref.ensures.value) c.in_ok-names.ensures)
