use Rattle.std.proofs.Common.{sym, ap, subst, ◌∙◌, below_more, []}
use Rattle.std.proofs.lemmas.Bool.{true≢false}
use Rattle.locate_point.specs.Covering.{Covers, IsAround, corners_of}
use Rattle.locate_point.proofs.downward.first_macro.Goals as goal

pub loop-root-preserved : goal.loop-root-preserved
loop-root-preserved c =
    let at = c.corners_of.ensures.corners ∙ ap (corners_of c.args.mesh.now) c.top.ensures in
    below_more (λ r. IsAround c.args.mesh.now c.args.point (r, []) → ⊥) c.loop-root.root c.loop-root.invariant
    (λ h. true≢false (sym (c.contains.ensures.1 (subst (λ t. Covers t c.args.point) (sym at) h)) ∙ c.if-contains.false))
