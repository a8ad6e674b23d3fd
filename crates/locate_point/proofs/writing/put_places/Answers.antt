use Rattle.std.proofs.Common.{get_or, subst}
use Rattle.std.specs.Prelude.{pos}
use Rattle.std.proofs.lemmas.List.{get_or_default}
use Rattle.locate_point.specs.Locating.{IsPlace}
use Rattle.locate_point.proofs.Placed.{point_more}
use Rattle.locate_point.proofs.writing.put_places.Goals as goal

pub loop-point-preserved : goal.loop-point-preserved
loop-point-preserved c =
    let known = c.in_ok-locator.ensures in
    let at = c.loop-point.point-index in
    let point = get_or c.args.points.now at (pos 0, pos 0) in
    let of_mesh = subst (λ m. IsPlace m c.in_ok-locator.locator.leaves.now point c.place.result) known.of_mesh c.place.ensures in
    let here = subst (λ ls. IsPlace c.args.mesh.now ls point c.place.result) known.of_leaves of_mesh in
    point_more c.args.mesh.now c.args.leaves.now c.args.points.now at point c.place.result c.loop-point.text.items c.put_place.new.text.items c.loop-point-test.true (get_or_default c.args.points.now at (pos 0, pos 0) point c.loop-point-test.true) c.loop-point.invariant here
    c.in_ok-put_place.ensures
