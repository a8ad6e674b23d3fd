use Rattle.std.proofs.Common.{◌<◌, length, ◌∙◌, sym, subst, arith}
use Rattle.std.specs.Prelude.{None}
use Rattle.std.proofs.lemmas.List.{get_or_default}
use Rattle.compat_check.specs.Places.{IsEarlier}
use Rattle.mesh_writer.proofs.FirstOthers.{others_more}
use Rattle.mesh_writer.proofs.others.others_by_order.Goals as goal

pub loop-place-preserved : goal.loop-place-preserved
loop-place-preserved c =
    let triples = c.args.triples.now in
    let place = c.loop-place.place in
    let earlier = c.in_ok-earlier.earlier.items in
    let low : place < length earlier = omega (arith, c.loop-place-test.true, c.len-place-end.ensures) in
    let last = c.in_ok-earlier.ensures.last place (omega (arith, low, c.in_ok-earlier.ensures.each)) in
    let read : IsEarlier triples place c.index.result.now = subst (IsEarlier triples place) (get_or_default earlier place None c.index.result.now low ∙ sym c.index.ensures) last in
    others_more triples place c.loop-place.others.items c.add_place.new.others.items c.loop-place.invariant c.index.result.now read c.in_ok-add_place.ensures
