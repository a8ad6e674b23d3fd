use Rattle.std.proofs.Common.{arith, subst, sym}
use Rattle.mesh_names.specs.Forests.{Names}
use Rattle.forest_plain.specs.Rounds.{IsDeepestLeaf}
use Rattle.compat_check.specs.Meshes.{shape_of}
use Rattle.forest_plain.proofs.Refining.{leaves_rooted, some_leaf, deepest_leaf, leaf_level}
use Rattle.forest_plain.proofs.forest.PlainForest.try_all.Goals as goal

pub greatest_level-deepest-requires-clause-rooted : goal.greatest_level-deepest-requires-clause-rooted
greatest_level-deepest-requires-clause-rooted c = leaves_rooted (shape_of c.args.self.now.mesh.now) c.args.self.now.members c.args.list.now c.args.self.now.stands.forest c.requires.leaves

pub greatest_level-deepest-requires-clause-some : goal.greatest_level-deepest-requires-clause-some
greatest_level-deepest-requires-clause-some c = some_leaf (shape_of c.args.self.now.mesh.now) c.args.self.now.members c.args.list.now c.args.self.now.stands.forest c.requires.leaves c.element_count-checked.ensures.checked.some

pub try_rows-requires-clause-deepest : goal.try_rows-requires-clause-deepest
try_rows-requires-clause-deepest c i d h asks =
    subst (λ (s : Names). IsDeepestLeaf (shape_of c.args.self.now.mesh.now) s c.greatest_level-deepest.result) (sym c.finder.ensures)
    (deepest_leaf (shape_of c.args.self.now.mesh.now) c.args.self.now.members c.args.list.now c.args.self.now.stands.forest c.requires.leaves c.greatest_level-deepest.result c.greatest_level-deepest.ensures)

pub try_rows-requires-clause-small : goal.try_rows-requires-clause-small
try_rows-requires-clause-small c =
    let g = deepest_leaf (shape_of c.args.self.now.mesh.now) c.args.self.now.members c.args.list.now c.args.self.now.stands.forest c.requires.leaves c.greatest_level-deepest.result c.greatest_level-deepest.ensures in
    let low = leaf_level (shape_of c.args.self.now.mesh.now) c.args.self.now.members c.args.self.now.stands.forest c.element_count-checked.ensures.checked.low g.leaf g.is_leaf in
    omega (arith, low, g.reached)
