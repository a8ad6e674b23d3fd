use Rattle.std.proofs.Common.{List, ℕ, refl, subst, sym}
use Rattle.std.specs.Prelude.{Ok}
use Rattle.adapt_words.specs.Rounds.{soak_said}
use Rattle.adapt_words.specs.Words.{soak}
use Rattle.adapt_cli.specs.Soaks.{IsSoakOutcome}
use Rattle.adapt_cli.proofs.Parts.{written}
use Rattle.adapt_cli.proofs.Endings.{written_out}
use Rattle.adapt_cli.proofs.SoakStops.{soak_stopped}
use Rattle.adapt_cli.proofs.program.end_soak.Goals as goal

pub returns-in-Ok : goal.returns-in-Ok
returns-in-Ok g c source is calm =
    written_out source
    (written (g.O.Sink.holds c.args.out.now) (g.O.Sink.holds c.write_text.new.out) (g.O.Sink.faults c.args.out.now) (g.O.Sink.faults c.write_text.new.out))
    (written (g.E.Sink.holds c.args.err.now) (g.E.Sink.holds c.write_text.new.err) (g.E.Sink.faults c.args.err.now) (g.E.Sink.faults c.write_text.new.err))
    c.deref.result.now c.write_text.result
    (record { calm = calm; outcome = record { command = soak (soak_said c.args.soak.now); is_command = is; outcome = subst (λ (t : List ℕ). IsSoakOutcome (soak_said c.args.soak.now) (Ok t)) (sym c.deref.ensures.value) c.in-Ok.ensures.ok } })
    c.write_text.ensures

pub returns-in-Err : goal.returns-in-Err
returns-in-Err g c source is calm = soak_stopped (soak_said c.args.soak.now) source is calm
    (written (g.O.Sink.holds c.args.out.now) (g.O.Sink.holds c.args.out.now) (g.O.Sink.faults c.args.out.now) (g.O.Sink.faults c.args.out.now))
    (written (g.E.Sink.holds c.args.err.now) (g.E.Sink.holds c.write_stop.new.err) (g.E.Sink.faults c.args.err.now) (g.E.Sink.faults c.write_stop.new.err))
    (record { same = refl; calm = refl }) c.in-Err.stop c.in-Err.ensures.stopped c.write_stop.result c.write_stop.ensures
