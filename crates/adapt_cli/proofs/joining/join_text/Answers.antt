use Rattle.std.proofs.Common.{inl, inr, arith}
use Rattle.adapt_words.specs.Restarts.{join_said}
use Rattle.adapt_cli.specs.Loads.{Asks, AsksOnce, Loads}
use Rattle.adapt_cli.specs.Restarts.{AcceptsRestart, JoinsTo, RefusesRestart, kept_of}
use Rattle.adapt_cli.specs.declared.fault.FileStop.TheVariants.{Stopped}
use Rattle.adapt_cli.proofs.FilesInTurn.{asks_none, ends-stops, ends-text, load-stops, then-stops, then-text}
use Rattle.adapt_cli.proofs.RestartOutcomes.{join_status}
use Rattle.adapt_cli.proofs.joining.join_text.Goals as goal

pub returns-in-Err-load_restart-clause-stopped : goal.returns-in-Err-load_restart-clause-stopped
returns-in-Err-load_restart-clause-stopped g c =
    then-stops (join_said c.args.words.now).first_file 3 (omega arith) (omega arith) RefusesRestart AcceptsRestart (λ a. Loads (join_said c.args.words.now).second_file 3 RefusesRestart AcceptsRestart (λ b told. JoinsTo a b)) (g.S.Shelf.files c.args.shelf.now) (Asks (join_said c.args.words.now).first_file AcceptsRestart (AsksOnce (join_said c.args.words.now).second_file)) (λ n e. inl e) (g.S.Shelf.steady c.args.shelf.now) (g.S.Shelf.faults c.args.shelf.now) (kept_of c.in-Ok.first) (g.S.Shelf.faults c.load_restart.new.shelf) (g.S.Shelf.files c.load_restart.new.shelf) c.in-Ok.ensures.same (g.S.Shelf.steady c.load_restart.new.shelf) c.in-Ok.ensures.stays c.in-Ok.ensures.ok (AsksOnce (join_said c.args.words.now).second_file) (λ n accepted e. inr (accepted, e)) (g.S.Shelf.faults c.load_restart-2.new.shelf) c.in-Err-load_restart.stop
    (load-stops (join_said c.args.words.now).second_file 3 (omega arith) (omega arith) RefusesRestart AcceptsRestart (λ b told. JoinsTo (kept_of c.in-Ok.first) b) (g.S.Shelf.files c.load_restart.new.shelf) (AsksOnce (join_said c.args.words.now).second_file) (λ n e. e) (g.S.Shelf.steady c.load_restart.new.shelf) (g.S.Shelf.faults c.load_restart.new.shelf) (g.S.Shelf.faults c.load_restart-2.new.shelf) c.in-Err-load_restart.stop c.in-Err-load_restart.ensures.stopped)

pub returns-in-Ok-joined-clause-ok : goal.returns-in-Ok-joined-clause-ok
returns-in-Ok-joined-clause-ok g c =
    then-text (join_said c.args.words.now).first_file 3 (omega arith) (omega arith) RefusesRestart AcceptsRestart (λ a. Loads (join_said c.args.words.now).second_file 3 RefusesRestart AcceptsRestart (λ b told. JoinsTo a b)) (g.S.Shelf.files c.args.shelf.now) (Asks (join_said c.args.words.now).first_file AcceptsRestart (AsksOnce (join_said c.args.words.now).second_file)) (λ n e. inl e) (g.S.Shelf.steady c.args.shelf.now) (g.S.Shelf.faults c.args.shelf.now) (kept_of c.in-Ok.first) (g.S.Shelf.faults c.load_restart.new.shelf) (g.S.Shelf.files c.load_restart.new.shelf) c.in-Ok.ensures.same (g.S.Shelf.steady c.load_restart.new.shelf) c.in-Ok.ensures.stays c.in-Ok.ensures.ok (g.S.Shelf.faults c.load_restart-2.new.shelf) c.in-Ok-joined.text.items
    (then-text (join_said c.args.words.now).second_file 3 (omega arith) (omega arith) RefusesRestart AcceptsRestart (λ b told. JoinsTo (kept_of c.in-Ok.first) b) (g.S.Shelf.files c.load_restart.new.shelf) (AsksOnce (join_said c.args.words.now).second_file) (λ n e. e) (g.S.Shelf.steady c.load_restart.new.shelf) (g.S.Shelf.faults c.load_restart.new.shelf) (kept_of c.in-Ok-load_restart.second) (g.S.Shelf.faults c.load_restart-2.new.shelf) (g.S.Shelf.files c.load_restart-2.new.shelf) c.in-Ok-load_restart.ensures.same (g.S.Shelf.steady c.load_restart-2.new.shelf) c.in-Ok-load_restart.ensures.stays c.in-Ok-load_restart.ensures.ok (g.S.Shelf.faults c.load_restart-2.new.shelf) c.in-Ok-joined.text.items
    (ends-text (JoinsTo (kept_of c.in-Ok.first) (kept_of c.in-Ok-load_restart.second)) (g.S.Shelf.files c.load_restart-2.new.shelf) (g.S.Shelf.faults c.load_restart-2.new.shelf) c.in-Ok-joined.text.items c.in-Ok-joined.ensures.ok))

pub returns-clause-stopped : goal.returns-clause-stopped
returns-clause-stopped g c =
    then-stops (join_said c.args.words.now).first_file 3 (omega arith) (omega arith) RefusesRestart AcceptsRestart (λ a. Loads (join_said c.args.words.now).second_file 3 RefusesRestart AcceptsRestart (λ b told. JoinsTo a b)) (g.S.Shelf.files c.args.shelf.now) (Asks (join_said c.args.words.now).first_file AcceptsRestart (AsksOnce (join_said c.args.words.now).second_file)) (λ n e. inl e) (g.S.Shelf.steady c.args.shelf.now) (g.S.Shelf.faults c.args.shelf.now) (kept_of c.in-Ok.first) (g.S.Shelf.faults c.load_restart.new.shelf) (g.S.Shelf.files c.load_restart.new.shelf) c.in-Ok.ensures.same (g.S.Shelf.steady c.load_restart.new.shelf) c.in-Ok.ensures.stays c.in-Ok.ensures.ok (AsksOnce (join_said c.args.words.now).second_file) (λ n accepted e. inr (accepted, e)) (g.S.Shelf.faults c.load_restart-2.new.shelf) (Stopped c.in-Err-joined.stop)
    (then-stops (join_said c.args.words.now).second_file 3 (omega arith) (omega arith) RefusesRestart AcceptsRestart (λ b told. JoinsTo (kept_of c.in-Ok.first) b) (g.S.Shelf.files c.load_restart.new.shelf) (AsksOnce (join_said c.args.words.now).second_file) (λ n e. e) (g.S.Shelf.steady c.load_restart.new.shelf) (g.S.Shelf.faults c.load_restart.new.shelf) (kept_of c.in-Ok-load_restart.second) (g.S.Shelf.faults c.load_restart-2.new.shelf) (g.S.Shelf.files c.load_restart-2.new.shelf) c.in-Ok-load_restart.ensures.same (g.S.Shelf.steady c.load_restart-2.new.shelf) c.in-Ok-load_restart.ensures.stays c.in-Ok-load_restart.ensures.ok asks_none (λ n a x. absurd x) (g.S.Shelf.faults c.load_restart-2.new.shelf) (Stopped c.in-Err-joined.stop)
    (ends-stops (JoinsTo (kept_of c.in-Ok.first) (kept_of c.in-Ok-load_restart.second)) asks_none (join_status (kept_of c.in-Ok.first) (kept_of c.in-Ok-load_restart.second)) (g.S.Shelf.files c.load_restart-2.new.shelf) (g.S.Shelf.steady c.load_restart-2.new.shelf) (g.S.Shelf.faults c.load_restart-2.new.shelf) c.in-Err-joined.stop c.in-Err-joined.ensures.stopped))
