use Rattle.std.proofs.Common.{sym, subst}
use Rattle.locate_point.specs.Ways.{IsOnWay}
use Rattle.locate_point.proofs.Descent.{start, nowhere}
use Rattle.locate_point.proofs.downward.descend.Goals as goal

pub leaf_below-requires-clause-way : goal.leaf_below-requires-clause-way
leaf_below-requires-clause-way c =
    subst (IsOnWay c.args.mesh.now c.args.leaves.now c.args.point) (sym c.top.ensures)
    (start c.contains_by_children.ensures c.args.mesh.now c.requires.exact c.requires.leaves.0 c.args.leaves.now c.requires.leaves.1 c.args.point c.in-Some.root c.in-Some.ensures.first.0 c.in-Some.ensures.first.1 c.in-Some.ensures.first.2)

pub returns-in-None-clause-place : goal.returns-in-None-clause-place
returns-in-None-clause-place c = nowhere c.contains_by_children.ensures c.args.mesh.now c.requires.exact c.requires.leaves.0 c.args.leaves.now c.requires.leaves.1 c.args.point c.in-None.ensures.first
