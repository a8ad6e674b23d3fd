use Rattle.std.proofs.Common.{sym, ap, subst, ◌∙◌}
use Rattle.std.proofs.lemmas.Bool.{true≢false}
use Rattle.std.specs.List.{Contains}
use Rattle.mesh_names.specs.Names.{Name}
use Rattle.locate_point.specs.Covering.{AreWithin, corners_of}
use Rattle.locate_point.specs.Ranks.{AreBefore}
use Rattle.locate_point.specs.Ways.{IsOnWay, child_corners}
use Rattle.locate_point.proofs.Descent.{corners_of_child, stepped, unlisted-short}
use Rattle.locate_point.proofs.Placing.{corners_within}
use Rattle.locate_point.proofs.Searching.{before_child}
use Rattle.locate_point.proofs.downward.leaf_below.Goals as goal

pub child_around-side-requires-clause-corners : goal.child_around-side-requires-clause-corners
child_around-side-requires-clause-corners c = subst AreWithin (sym c.loop-point.invariant.corners) (corners_within c.args.mesh.now c.loop-point.name)

pub child_at-name-requires : goal.child_at-name-requires
child_at-name-requires c = unlisted-short c.args.mesh.now c.requires.leaves.0 c.args.leaves.now c.requires.leaves.1 c.args.point c.loop-point.name c.loop-point.invariant.way (λ there. true≢false (sym (c.is_at.ensures.1 there) ∙ c.loop-point-test.true))

pub rank_from-rank-requires-in-loop-point-clause-count : goal.rank_from-rank-requires-in-loop-point-clause-count
rank_from-rank-requires-in-loop-point-clause-count c =
    subst (λ (n : Name). AreBefore c.args.leaves.now n c.loop-point.rank) (sym c.child_at-name.ensures)
    (before_child c.args.leaves.now c.loop-point.name c.child_around-side.result.0 c.loop-point.rank c.loop-point.invariant.rank.earlier)

pub loop-point-preserved : goal.loop-point-preserved
loop-point-preserved c =
    let unlisted : Contains c.args.leaves.now c.loop-point.name → ⊥ = λ there. true≢false (sym (c.is_at.ensures.1 there) ∙ c.loop-point-test.true) in
    let side = c.child_around-side.result.0 in
    record {
      corners = c.child_around-side.ensures.corners ∙ ap (λ t. child_corners t side) c.loop-point.invariant.corners ∙ corners_of_child c.args.mesh.now c.loop-point.name side ∙ ap (corners_of c.args.mesh.now) (sym c.child_at-name.ensures);
      way =
          subst (IsOnWay c.args.mesh.now c.args.leaves.now c.args.point) (sym c.child_at-name.ensures)
          (stepped c.contains_by_children.ensures c.args.mesh.now c.requires.exact c.requires.leaves.0 c.args.leaves.now c.requires.leaves.1 c.args.point c.loop-point.name c.loop-point.corners side c.loop-point.invariant.corners c.loop-point.invariant.way unlisted c.child_around-side.ensures.first c.child_around-side.ensures.second);
      rank = c.rank_from-rank-in-loop-point.ensures;
    }
