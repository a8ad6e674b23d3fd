use Rattle.std.proofs.Common.{◌++◌, List, ℕ, subst}
use Rattle.std.specs.Prelude.{codes, IfOk, IfErr}
use Rattle.std.proofs.lemmas.Result.{IfOk-weaker, IfErr-weaker}
use Rattle.adapt_cli.specs.Ending.{Took, Failed}
use Rattle.adapt_cli.proofs.Parts.{written, failed_early, failed_late, took_both}
use Rattle.adapt_cli.proofs.ending.put_read_fault.Goals as goal

pub returns-in-Err-clause-failed : goal.returns-in-Err-clause-failed
returns-in-Err-clause-failed g c = failed_early (g.O.Sink.holds c.args.sink.now) (g.O.Sink.holds c.put.new.sink) (g.O.Sink.faults c.args.sink.now) (g.O.Sink.faults c.put.new.sink) (codes "adapt: read fault: ") (c.args.name.now ++ codes "\n") c.in-Err.ensures.failed

pub returns-clause-took : goal.returns-clause-took
returns-clause-took g c =
    let sink = written (g.O.Sink.holds c.args.sink.now) (g.O.Sink.holds c.put_both.new.sink) (g.O.Sink.faults c.args.sink.now) (g.O.Sink.faults c.put_both.new.sink) in
    subst (λ (name : List ℕ). IfOk c.put_both.result (λ u. Took sink (codes "adapt: read fault: " ++ (name ++ codes "\n")))) c.as_bytes.ensures.value
    (IfOk-weaker c.put_both.result _ _ (λ u h. took_both (g.O.Sink.holds c.args.sink.now) (g.O.Sink.holds c.put.new.sink) (g.O.Sink.holds c.put_both.new.sink) (g.O.Sink.faults c.args.sink.now) (g.O.Sink.faults c.put.new.sink) (g.O.Sink.faults c.put_both.new.sink) (codes "adapt: read fault: ") (c.as_bytes.result.now ++ codes "\n") c.in_default.ensures.took h) c.put_both.ensures.took)

pub returns-clause-failed : goal.returns-clause-failed
returns-clause-failed g c =
    let sink = written (g.O.Sink.holds c.args.sink.now) (g.O.Sink.holds c.put_both.new.sink) (g.O.Sink.faults c.args.sink.now) (g.O.Sink.faults c.put_both.new.sink) in
    subst (λ (name : List ℕ). IfErr c.put_both.result (λ u. Failed sink (codes "adapt: read fault: " ++ (name ++ codes "\n")))) c.as_bytes.ensures.value
    (IfErr-weaker c.put_both.result _ _ (λ e h. failed_late (g.O.Sink.holds c.args.sink.now) (g.O.Sink.holds c.put.new.sink) (g.O.Sink.holds c.put_both.new.sink) (g.O.Sink.faults c.args.sink.now) (g.O.Sink.faults c.put.new.sink) (g.O.Sink.faults c.put_both.new.sink) (codes "adapt: read fault: ") (c.as_bytes.result.now ++ codes "\n") c.in_default.ensures.took h) c.put_both.ensures.failed)
