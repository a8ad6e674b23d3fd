use Rattle.std.proofs.Common.{arith, drop, ◌-◌, ◌∙◌}
use Rattle.std.proofs.lemmas.List.{length-take, length-drop}
use Rattle.mesh_io.proofs.Writing.{grown}
use Rattle.mesh_io.proofs.sink.put_all.Goals as goal

pub loop-at-preserved : goal.loop-at-preserved
loop-at-preserved g c =
    let write = c.in_ok-at.ensures in
    let taken = write.taken.1 in
    record {
      within = omega (arith, length-take (c.if-text-at-gt-PIECE.end - c.loop-at.at) (drop c.loop-at.at c.args.text.now), length-drop c.loop-at.at c.args.text.now);
      calm = write.taken.2 ∙ c.loop-at.invariant.calm;
      held = grown (g.O.Sink.holds c.args.sink.now) (g.O.Sink.holds c.loop-at.sink) (g.O.Sink.holds c.write.new.self) c.args.text.now c.loop-at.at c.if-text-at-gt-PIECE.end c.in_ok-at.field-0 taken c.loop-at.invariant.held write.taken.3;
    }
