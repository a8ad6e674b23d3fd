use Rattle.std.proofs.Common.{List, arith, inl, inr, subst}
use Rattle.std.specs.Prelude.{Ok}
use Rattle.mesh_names.specs.declared.rows.RoundMarks.{RoundMarks}
use Rattle.compat_check.specs.Points.{Point}
use Rattle.mark_file.specs.Meaning.{rounds_read}
use Rattle.adapt_words.specs.Finding.{find_said}
use Rattle.adapt_cli.specs.Finding.{AcceptsPoints, FindsTo, LoadsPoints, RefusesPoints}
use Rattle.adapt_cli.specs.InputFiles.{AcceptsMacro, AcceptsMarks, RefusesMacro, RefusesMarks}
use Rattle.adapt_cli.specs.Loads.{Asks, AsksOnce}
use Rattle.adapt_cli.specs.Outcome.{LoadsMarks}
use Rattle.adapt_cli.specs.Stops.{StopsBy}
use Rattle.adapt_cli.specs.declared.fault.FileStop.TheVariants.{Stopped}
use Rattle.adapt_cli.proofs.FindOutcomes.{find_status}
use Rattle.adapt_cli.proofs.FilesInTurn.{asks_none, ends-stops, ends-text, load-stops, then-stops, then-text}
use Rattle.adapt_cli.proofs.finding.find_text.Goals as goal

pub returns-in-Err-clause-stopped : goal.returns-in-Err-clause-stopped
returns-in-Err-clause-stopped g c = load-stops (find_said c.args.find.now).macro_file 3 (omega arith) (omega arith) RefusesMacro AcceptsMacro (λ mesh. LoadsMarks (find_said c.args.find.now).marks_file (LoadsPoints (find_said c.args.find.now) mesh)) (g.S.Shelf.files c.args.shelf.now) (Asks (find_said c.args.find.now).macro_file AcceptsMacro (Asks (find_said c.args.find.now).marks_file AcceptsMarks (AsksOnce (find_said c.args.find.now).points_file))) (λ n e. inl e) (g.S.Shelf.steady c.args.shelf.now) (g.S.Shelf.faults c.args.shelf.now) (g.S.Shelf.faults c.load_macro.new.shelf) c.in-Err.stop c.in-Err.ensures.stopped

pub returns-in-Err-load_marks-clause-stopped : goal.returns-in-Err-load_marks-clause-stopped
returns-in-Err-load_marks-clause-stopped g c =
    then-stops (find_said c.args.find.now).macro_file 3 (omega arith) (omega arith) RefusesMacro AcceptsMacro (λ mesh. LoadsMarks (find_said c.args.find.now).marks_file (LoadsPoints (find_said c.args.find.now) mesh)) (g.S.Shelf.files c.args.shelf.now) (Asks (find_said c.args.find.now).macro_file AcceptsMacro (Asks (find_said c.args.find.now).marks_file AcceptsMarks (AsksOnce (find_said c.args.find.now).points_file))) (λ n e. inl e) (g.S.Shelf.steady c.args.shelf.now) (g.S.Shelf.faults c.args.shelf.now) c.in-Ok.mesh (g.S.Shelf.faults c.load_macro.new.shelf) (g.S.Shelf.files c.load_macro.new.shelf) c.in-Ok.ensures.same (g.S.Shelf.steady c.load_macro.new.shelf) c.in-Ok.ensures.stays c.in-Ok.ensures.ok (Asks (find_said c.args.find.now).marks_file AcceptsMarks (AsksOnce (find_said c.args.find.now).points_file)) (λ n accepted a. inr (accepted, a)) (g.S.Shelf.faults c.load_marks.new.shelf) c.in-Err-load_marks.stop
    (load-stops (find_said c.args.find.now).marks_file 4 (omega arith) (omega arith) RefusesMarks AcceptsMarks (LoadsPoints (find_said c.args.find.now) c.in-Ok.mesh) (g.S.Shelf.files c.load_macro.new.shelf) (Asks (find_said c.args.find.now).marks_file AcceptsMarks (AsksOnce (find_said c.args.find.now).points_file)) (λ n e. inl e) (g.S.Shelf.steady c.load_macro.new.shelf) (g.S.Shelf.faults c.load_macro.new.shelf) (g.S.Shelf.faults c.load_marks.new.shelf) c.in-Err-load_marks.stop c.in-Err-load_marks.ensures.stopped)

pub returns-in-Err-load_points-clause-stopped : goal.returns-in-Err-load_points-clause-stopped
returns-in-Err-load_points-clause-stopped g c =
    then-stops (find_said c.args.find.now).macro_file 3 (omega arith) (omega arith) RefusesMacro AcceptsMacro (λ mesh. LoadsMarks (find_said c.args.find.now).marks_file (LoadsPoints (find_said c.args.find.now) mesh)) (g.S.Shelf.files c.args.shelf.now) (Asks (find_said c.args.find.now).macro_file AcceptsMacro (Asks (find_said c.args.find.now).marks_file AcceptsMarks (AsksOnce (find_said c.args.find.now).points_file))) (λ n e. inl e) (g.S.Shelf.steady c.args.shelf.now) (g.S.Shelf.faults c.args.shelf.now) c.in-Ok.mesh (g.S.Shelf.faults c.load_macro.new.shelf) (g.S.Shelf.files c.load_macro.new.shelf) c.in-Ok.ensures.same (g.S.Shelf.steady c.load_macro.new.shelf) c.in-Ok.ensures.stays c.in-Ok.ensures.ok (Asks (find_said c.args.find.now).marks_file AcceptsMarks (AsksOnce (find_said c.args.find.now).points_file)) (λ n accepted a. inr (accepted, a)) (g.S.Shelf.faults c.load_points.new.shelf) c.in-Err-load_points.stop
    (then-stops (find_said c.args.find.now).marks_file 4 (omega arith) (omega arith) RefusesMarks AcceptsMarks (LoadsPoints (find_said c.args.find.now) c.in-Ok.mesh) (g.S.Shelf.files c.load_macro.new.shelf) (Asks (find_said c.args.find.now).marks_file AcceptsMarks (AsksOnce (find_said c.args.find.now).points_file)) (λ n e. inl e) (g.S.Shelf.steady c.load_macro.new.shelf) (g.S.Shelf.faults c.load_macro.new.shelf) (rounds_read c.in-Ok-load_marks.rounds.items) (g.S.Shelf.faults c.load_marks.new.shelf) (g.S.Shelf.files c.load_marks.new.shelf) c.in-Ok-load_marks.ensures.same (g.S.Shelf.steady c.load_marks.new.shelf) c.in-Ok-load_marks.ensures.stays c.in-Ok-load_marks.ensures.ok (AsksOnce (find_said c.args.find.now).points_file) (λ n accepted a. inr (accepted, a)) (g.S.Shelf.faults c.load_points.new.shelf) c.in-Err-load_points.stop
    (load-stops (find_said c.args.find.now).points_file 4 (omega arith) (omega arith) RefusesPoints AcceptsPoints (λ points told. FindsTo c.in-Ok.mesh (find_said c.args.find.now) (rounds_read c.in-Ok-load_marks.rounds.items) points) (g.S.Shelf.files c.load_marks.new.shelf) (AsksOnce (find_said c.args.find.now).points_file) (λ n e. e) (g.S.Shelf.steady c.load_marks.new.shelf) (g.S.Shelf.faults c.load_marks.new.shelf) (g.S.Shelf.faults c.load_points.new.shelf) c.in-Err-load_points.stop c.in-Err-load_points.ensures.stopped))

pub returns-in-Ok-places-clause-ok : goal.returns-in-Ok-places-clause-ok
returns-in-Ok-places-clause-ok g c =
    let text = c.in-Ok-places.text.items in
    let made = subst (λ (s : List RoundMarks × List Point). FindsTo c.in-Ok.mesh (find_said c.args.find.now) (rounds_read s.0) s.1 (Ok text)) (λ i. (c.deref.ensures.value i, c.deref-2.ensures.value i)) c.in-Ok-places.ensures.ok in
    then-text (find_said c.args.find.now).macro_file 3 (omega arith) (omega arith) RefusesMacro AcceptsMacro (λ mesh. LoadsMarks (find_said c.args.find.now).marks_file (LoadsPoints (find_said c.args.find.now) mesh)) (g.S.Shelf.files c.args.shelf.now) (Asks (find_said c.args.find.now).macro_file AcceptsMacro (Asks (find_said c.args.find.now).marks_file AcceptsMarks (AsksOnce (find_said c.args.find.now).points_file))) (λ n e. inl e) (g.S.Shelf.steady c.args.shelf.now) (g.S.Shelf.faults c.args.shelf.now) c.in-Ok.mesh (g.S.Shelf.faults c.load_macro.new.shelf) (g.S.Shelf.files c.load_macro.new.shelf) c.in-Ok.ensures.same (g.S.Shelf.steady c.load_macro.new.shelf) c.in-Ok.ensures.stays c.in-Ok.ensures.ok (g.S.Shelf.faults c.load_points.new.shelf) text (then-text (find_said c.args.find.now).marks_file 4 (omega arith) (omega arith) RefusesMarks AcceptsMarks (LoadsPoints (find_said c.args.find.now) c.in-Ok.mesh) (g.S.Shelf.files c.load_macro.new.shelf) (Asks (find_said c.args.find.now).marks_file AcceptsMarks (AsksOnce (find_said c.args.find.now).points_file)) (λ n e. inl e) (g.S.Shelf.steady c.load_macro.new.shelf) (g.S.Shelf.faults c.load_macro.new.shelf) (rounds_read c.in-Ok-load_marks.rounds.items) (g.S.Shelf.faults c.load_marks.new.shelf) (g.S.Shelf.files c.load_marks.new.shelf) c.in-Ok-load_marks.ensures.same (g.S.Shelf.steady c.load_marks.new.shelf) c.in-Ok-load_marks.ensures.stays c.in-Ok-load_marks.ensures.ok (g.S.Shelf.faults c.load_points.new.shelf) text (then-text (find_said c.args.find.now).points_file 4 (omega arith) (omega arith) RefusesPoints AcceptsPoints (λ points told. FindsTo c.in-Ok.mesh (find_said c.args.find.now) (rounds_read c.in-Ok-load_marks.rounds.items) points) (g.S.Shelf.files c.load_marks.new.shelf) (AsksOnce (find_said c.args.find.now).points_file) (λ n e. e) (g.S.Shelf.steady c.load_marks.new.shelf) (g.S.Shelf.faults c.load_marks.new.shelf) c.in-Ok-load_points.points.items (g.S.Shelf.faults c.load_points.new.shelf) (g.S.Shelf.files c.load_points.new.shelf) c.in-Ok-load_points.ensures.same (g.S.Shelf.steady c.load_points.new.shelf) c.in-Ok-load_points.ensures.stays c.in-Ok-load_points.ensures.ok (g.S.Shelf.faults c.load_points.new.shelf) text (ends-text (FindsTo c.in-Ok.mesh (find_said c.args.find.now) (rounds_read c.in-Ok-load_marks.rounds.items) c.in-Ok-load_points.points.items) (g.S.Shelf.files c.load_points.new.shelf) (g.S.Shelf.faults c.load_points.new.shelf) text made)))

pub returns-clause-stopped : goal.returns-clause-stopped
returns-clause-stopped g c =
    let stop = c.in-Err-places.stop in
    let stops = subst (λ (s : List RoundMarks × List Point). StopsBy (FindsTo c.in-Ok.mesh (find_said c.args.find.now) (rounds_read s.0) s.1) stop) (λ i. (c.deref.ensures.value i, c.deref-2.ensures.value i)) c.in-Err-places.ensures.stopped in
    then-stops (find_said c.args.find.now).macro_file 3 (omega arith) (omega arith) RefusesMacro AcceptsMacro (λ mesh. LoadsMarks (find_said c.args.find.now).marks_file (LoadsPoints (find_said c.args.find.now) mesh)) (g.S.Shelf.files c.args.shelf.now) (Asks (find_said c.args.find.now).macro_file AcceptsMacro (Asks (find_said c.args.find.now).marks_file AcceptsMarks (AsksOnce (find_said c.args.find.now).points_file))) (λ n e. inl e) (g.S.Shelf.steady c.args.shelf.now) (g.S.Shelf.faults c.args.shelf.now) c.in-Ok.mesh (g.S.Shelf.faults c.load_macro.new.shelf) (g.S.Shelf.files c.load_macro.new.shelf) c.in-Ok.ensures.same (g.S.Shelf.steady c.load_macro.new.shelf) c.in-Ok.ensures.stays c.in-Ok.ensures.ok (Asks (find_said c.args.find.now).marks_file AcceptsMarks (AsksOnce (find_said c.args.find.now).points_file)) (λ n accepted a. inr (accepted, a)) (g.S.Shelf.faults c.load_points.new.shelf) (Stopped stop)
    (then-stops (find_said c.args.find.now).marks_file 4 (omega arith) (omega arith) RefusesMarks AcceptsMarks (LoadsPoints (find_said c.args.find.now) c.in-Ok.mesh) (g.S.Shelf.files c.load_macro.new.shelf) (Asks (find_said c.args.find.now).marks_file AcceptsMarks (AsksOnce (find_said c.args.find.now).points_file)) (λ n e. inl e) (g.S.Shelf.steady c.load_macro.new.shelf) (g.S.Shelf.faults c.load_macro.new.shelf) (rounds_read c.in-Ok-load_marks.rounds.items) (g.S.Shelf.faults c.load_marks.new.shelf) (g.S.Shelf.files c.load_marks.new.shelf) c.in-Ok-load_marks.ensures.same (g.S.Shelf.steady c.load_marks.new.shelf) c.in-Ok-load_marks.ensures.stays c.in-Ok-load_marks.ensures.ok (AsksOnce (find_said c.args.find.now).points_file) (λ n accepted a. inr (accepted, a)) (g.S.Shelf.faults c.load_points.new.shelf) (Stopped stop)
    (then-stops (find_said c.args.find.now).points_file 4 (omega arith) (omega arith) RefusesPoints AcceptsPoints (λ points told. FindsTo c.in-Ok.mesh (find_said c.args.find.now) (rounds_read c.in-Ok-load_marks.rounds.items) points) (g.S.Shelf.files c.load_marks.new.shelf) (AsksOnce (find_said c.args.find.now).points_file) (λ n e. e) (g.S.Shelf.steady c.load_marks.new.shelf) (g.S.Shelf.faults c.load_marks.new.shelf) c.in-Ok-load_points.points.items (g.S.Shelf.faults c.load_points.new.shelf) (g.S.Shelf.files c.load_points.new.shelf) c.in-Ok-load_points.ensures.same (g.S.Shelf.steady c.load_points.new.shelf) c.in-Ok-load_points.ensures.stays c.in-Ok-load_points.ensures.ok asks_none (λ n a x. absurd x) (g.S.Shelf.faults c.load_points.new.shelf) (Stopped stop)
    (ends-stops (FindsTo c.in-Ok.mesh (find_said c.args.find.now) (rounds_read c.in-Ok-load_marks.rounds.items) c.in-Ok-load_points.points.items) asks_none (find_status c.in-Ok.mesh (find_said c.args.find.now) (rounds_read c.in-Ok-load_marks.rounds.items) c.in-Ok-load_points.points.items) (g.S.Shelf.files c.load_points.new.shelf) (g.S.Shelf.steady c.load_points.new.shelf) (g.S.Shelf.faults c.load_points.new.shelf) stop stops)))
