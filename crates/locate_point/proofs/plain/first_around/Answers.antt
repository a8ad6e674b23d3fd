use Rattle.std.proofs.Common.{sym, subst, ◌∙◌}
use Rattle.std.proofs.lemmas.Bool.{true≢false}
use Rattle.locate_point.specs.Covering.{Covers}
use Rattle.locate_point.proofs.Elements.{listed-rooted}
use Rattle.locate_point.proofs.Places.{first_place, more_before}
use Rattle.locate_point.proofs.plain.first_around.Goals as goal

pub corners_of-requires : goal.corners_of-requires
corners_of-requires c = listed-rooted c.args.mesh.now c.requires.leaves.0 c.args.leaves.now c.requires.leaves.1 c.leaf-item.result (c.loop-leaf.leaf-index, c.loop-leaf-test.true, sym c.leaf-item.is)

pub returns-then-contains : goal.returns-then-contains
returns-then-contains c =
    first_place c.args.mesh.now c.args.leaves.now c.args.point c.requires.leaves.0 c.requires.leaves.1 c.loop-leaf.leaf-index c.leaf-item.result c.loop-leaf-test.true (sym c.leaf-item.is)
    (subst (λ t. Covers t c.args.point) c.corners_of.ensures.corners (c.contains.ensures.0 c.if-contains.true)) c.loop-leaf.invariant

pub loop-leaf-preserved : goal.loop-leaf-preserved
loop-leaf-preserved c =
    more_before c.args.mesh.now c.args.leaves.now c.args.point c.loop-leaf.leaf-index c.leaf-item.result c.loop-leaf-test.true (sym c.leaf-item.is)
    (λ h. true≢false (sym (c.contains.ensures.1 (subst (λ t. Covers t c.args.point) (sym c.corners_of.ensures.corners) h)) ∙ c.if-contains.false)) c.loop-leaf.invariant
