use Rattle.std.proofs.lemmas.Result.{IfOk-weaker, IfErr-weaker}
use Rattle.adapt_cli.proofs.Parts.{failed_early, failed_late, took_both}
use Rattle.adapt_cli.proofs.ending.put_both.Goals as goal

pub returns-in-Err-clause-failed : goal.returns-in-Err-clause-failed
returns-in-Err-clause-failed g c = failed_early (g.O.Sink.holds c.args.sink.now) (g.O.Sink.holds c.put.new.sink) (g.O.Sink.faults c.args.sink.now) (g.O.Sink.faults c.put.new.sink) c.args.first.now c.args.second.now c.in-Err.ensures.failed

pub returns-clause-took : goal.returns-clause-took
returns-clause-took g c = IfOk-weaker c.put-2.result _ _ (λ u h. took_both (g.O.Sink.holds c.args.sink.now) (g.O.Sink.holds c.put.new.sink) (g.O.Sink.holds c.put-2.new.sink) (g.O.Sink.faults c.args.sink.now) (g.O.Sink.faults c.put.new.sink) (g.O.Sink.faults c.put-2.new.sink) c.args.first.now c.args.second.now c.in_default.ensures.took h) c.put-2.ensures.took

pub returns-clause-failed : goal.returns-clause-failed
returns-clause-failed g c = IfErr-weaker c.put-2.result _ _ (λ e h. failed_late (g.O.Sink.holds c.args.sink.now) (g.O.Sink.holds c.put.new.sink) (g.O.Sink.holds c.put-2.new.sink) (g.O.Sink.faults c.args.sink.now) (g.O.Sink.faults c.put.new.sink) (g.O.Sink.faults c.put-2.new.sink) c.args.first.now c.args.second.now c.in_default.ensures.took h) c.put-2.ensures.failed
