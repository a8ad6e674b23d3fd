use Rattle.std.proofs.Common.{sym, ◌∙◌}
use Rattle.compat_check.specs.Meshes.{shape_of}
use Rattle.forest_plain.proofs.RowOrder.{deepest_named}
use Rattle.forest_plain.proofs.rows.reached.Goals as goal

pub returns-in-Some-clause-deepest : goal.returns-in-Some-clause-deepest
returns-in-Some-clause-deepest g c bisects = deepest_named (shape_of c.args.mesh.now) (g.S.Asked.names c.args.members.now) c.args.row.now c.in-Some.name (sym c.named.ensures ∙ c.in-Some.is) bisects.element c.level_of_leaf.result c.level_of_leaf.ensures.some
