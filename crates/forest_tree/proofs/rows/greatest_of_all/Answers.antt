use Rattle.std.proofs.Common.{List, arith, sym, subst}
use Rattle.mesh_names.specs.Leaves.{leaves}
use Rattle.mesh_names.specs.Names.{Name}
use Rattle.mesh_names.specs.Forests.{IsListOf}
use Rattle.compat_check.specs.Meshes.{shape_of}
use Rattle.forest_plain.proofs.Refining.{leaves_rooted, some_leaf, deepest_leaf, leaf_level}
use Rattle.forest_tree.proofs.rows.greatest_of_all.Goals as goal

pub greatest_level-requires-clause-rooted : goal.greatest_level-requires-clause-rooted
greatest_level-requires-clause-rooted c = leaves_rooted (shape_of c.args.mesh.now) c.args.members.now c.deref.result.now c.requires (subst (λ (l : List Name). IsListOf (leaves (shape_of c.args.mesh.now) c.args.members.now) l) (sym c.deref.ensures.value) c.in_ok-leaves.ensures)

pub greatest_level-requires-clause-some : goal.greatest_level-requires-clause-some
greatest_level-requires-clause-some c = some_leaf (shape_of c.args.mesh.now) c.args.members.now c.deref.result.now c.requires (subst (λ (l : List Name). IsListOf (leaves (shape_of c.args.mesh.now) c.args.members.now) l) (sym c.deref.ensures.value) c.in_ok-leaves.ensures) c.element_count-checked.ensures.checked.some

pub returns-clause-deepest : goal.returns-clause-deepest
returns-clause-deepest c = deepest_leaf (shape_of c.args.mesh.now) c.args.members.now c.deref.result.now c.requires (subst (λ (l : List Name). IsListOf (leaves (shape_of c.args.mesh.now) c.args.members.now) l) (sym c.deref.ensures.value) c.in_ok-leaves.ensures) c.greatest_level.result c.greatest_level.ensures

pub returns-clause-small : goal.returns-clause-small
returns-clause-small c =
    let g = deepest_leaf (shape_of c.args.mesh.now) c.args.members.now c.deref.result.now c.requires (subst (λ (l : List Name). IsListOf (leaves (shape_of c.args.mesh.now) c.args.members.now) l) (sym c.deref.ensures.value) c.in_ok-leaves.ensures) c.greatest_level.result c.greatest_level.ensures in
    let low = leaf_level (shape_of c.args.mesh.now) c.args.members.now c.requires c.element_count-checked.ensures.checked.low g.leaf g.is_leaf in
    omega (arith, low, g.reached)
