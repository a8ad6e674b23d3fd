use Rattle.std.proofs.Common.{arith}
use Rattle.mesh_writer.proofs.FirstOthers.{others_more}
use Rattle.mesh_writer.proofs.others.others_by_links.Goals as goal

pub loop-place-preserved : goal.loop-place-preserved
loop-place-preserved c =
    let known = c.loop-place.invariant in
    record {
      linked = c.in_ok-add.ensures.linked;
      bound = λ k low. omega (arith, known.bound k low, c.in_ok-add.ensures.bound);
      others = others_more c.args.triples.now c.loop-place.place c.loop-place.others.items c.add_place.new.others.items known.others c.earlier-earlier.result c.earlier-earlier.ensures c.in_ok-add_place.ensures;
    }
