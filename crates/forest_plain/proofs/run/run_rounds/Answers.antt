use Rattle.std.proofs.Common.{◌+◌, ◌∷◌, [], List, ap, arith, length, subst, sym, take}
use Rattle.std.proofs.lemmas.List.{length-append}
use Rattle.mesh_names.specs.declared.patch.RoundDelta.{RoundDelta}
use Rattle.forest_plain.specs.Runs.{AreDone}
use Rattle.forest_plain.proofs.Running.{done-next, stops}
use Rattle.forest_plain.proofs.run.run_rounds.Goals as goal

pub returns-in-Err-clause-refused : goal.returns-in-Err-clause-refused
returns-in-Err-clause-refused g c =
    stops g.F.Forest.seen g.F.Forest.kept c.args.rounds.now c.loop-round.round-index c.loop-round.index c.round-item.result _ c.loop-round.deltas.items c.args.forest.now c.loop-round.forest c.add_round.new.forest c.in-Err.refusal (omega (arith, c.loop-round-test.true)) c.round-item.is c.loop-round.invariant.counted
    c.loop-round.invariant.done c.in-Err.ensures.unchanged c.in-Err.ensures.refused

pub loop-round-preserved : goal.loop-round-preserved
loop-round-preserved g c =
    let one = c.in_default.ensures.ok in
    let longer = length-append c.loop-round.deltas.items (one.delta ∷ []) in
    let same_length = ap (λ (l : List RoundDelta). length l) one.added in
    let counted = c.loop-round.invariant.counted in
    let listed = c.loop-round.invariant.listed in
    let room = c.loop-round.invariant.room in
    let grown = c.in_default.ensures.capacity in
    let done = done-next g.F.Forest.seen g.F.Forest.kept c.args.rounds.now c.loop-round.round-index c.round-item.result _ c.loop-round.deltas.items one.delta c.args.forest.now c.loop-round.forest c.add_round.new.forest (omega (arith, c.loop-round-test.true)) c.round-item.is c.loop-round.invariant.done one.done in
    record {
      counted = omega (arith, counted);
      listed = omega (arith, same_length, longer, listed);
      room = omega (arith, room, grown);
      closed = one.done.closed;
      done = subst (λ (l : List RoundDelta). AreDone g.F.Forest.seen g.F.Forest.kept (take (c.loop-round.round-index + 1) c.args.rounds.now) l c.args.forest.now c.add_round.new.forest) (sym one.added) done;
    }
