use Rattle.std.proofs.Common.{List, ℕ, subst, sym}
use Rattle.std.specs.Prelude.{Ok}
use Rattle.mesh_names.specs.declared.rows.RoundMarks.{RoundMarks}
use Rattle.mark_file.specs.Meaning.{rounds_read}
use Rattle.restart_file.specs.Files.{IsPart}
use Rattle.adapt_words.specs.Restarts.{save_said}
use Rattle.adapt_cli.specs.InputFiles.{RefusesMacro}
use Rattle.adapt_cli.specs.Restarts.{AcceptsPart, SavesTo}
use Rattle.adapt_cli.specs.Stops.{StopsBy}
use Rattle.adapt_cli.proofs.RestartOutcomes.{as_part, save_status}
use Rattle.adapt_cli.proofs.FilesInTurn.{first-stops, marks-stops, rounds-stop, rounds-text}
use Rattle.adapt_cli.proofs.saving.save_text.Goals as goal

pub returns-in-Err-clause-stopped : goal.returns-in-Err-clause-stopped
returns-in-Err-clause-stopped g c = first-stops (save_said c.args.save.now).macro_file (save_said c.args.save.now).marks_file RefusesMacro AcceptsPart (λ read rounds. SavesTo read (save_said c.args.save.now) rounds) (g.S.Shelf.files c.args.shelf.now) (g.S.Shelf.steady c.args.shelf.now) (g.S.Shelf.faults c.args.shelf.now) (g.S.Shelf.faults c.load_part.new.shelf) c.in-Err.stop c.in-Err.ensures.stopped

pub returns-in-Err-load_marks-clause-stopped : goal.returns-in-Err-load_marks-clause-stopped
returns-in-Err-load_marks-clause-stopped g c = marks-stops (save_said c.args.save.now).macro_file (save_said c.args.save.now).marks_file RefusesMacro AcceptsPart (λ read rounds. SavesTo read (save_said c.args.save.now) rounds) (g.S.Shelf.files c.args.shelf.now) (g.S.Shelf.steady c.args.shelf.now) (g.S.Shelf.faults c.args.shelf.now) (c.in-Ok.part.0.items, c.in-Ok.part.1) (g.S.Shelf.faults c.load_part.new.shelf) (g.S.Shelf.files c.load_part.new.shelf) c.in-Ok.ensures.same (g.S.Shelf.steady c.load_part.new.shelf) c.in-Ok.ensures.stays c.in-Ok.ensures.ok (g.S.Shelf.faults c.load_marks.new.shelf) c.in-Err-load_marks.stop c.in-Err-load_marks.ensures.stopped

pub saved-requires-clause-part : goal.saved-requires-clause-part
saved-requires-clause-part g c = subst (λ (l : List ℕ). IsPart l c.in-Ok.part.1) (sym c.deref.ensures.value) (as_part c.in-Ok.part.0.items c.in-Ok.part.1 c.in-Ok.ensures.part)

pub returns-in-Ok-saved-clause-ok : goal.returns-in-Ok-saved-clause-ok
returns-in-Ok-saved-clause-ok g c =
    let rounds = c.in-Ok-load_marks.rounds.items in
    let made = subst (λ (s : List ℕ × List RoundMarks). SavesTo (s.0, c.in-Ok.part.1) (save_said c.args.save.now) (rounds_read s.1) (Ok c.in-Ok-saved.text.items)) (λ i. (c.deref.ensures.value i, c.deref-2.ensures.value i)) c.in-Ok-saved.ensures.ok in
    rounds-text (save_said c.args.save.now).macro_file (save_said c.args.save.now).marks_file RefusesMacro AcceptsPart (λ read rounds. SavesTo read (save_said c.args.save.now) rounds) (g.S.Shelf.files c.args.shelf.now) (g.S.Shelf.steady c.args.shelf.now) (g.S.Shelf.faults c.args.shelf.now) (c.in-Ok.part.0.items, c.in-Ok.part.1) (g.S.Shelf.faults c.load_part.new.shelf) (g.S.Shelf.files c.load_part.new.shelf) c.in-Ok.ensures.same (g.S.Shelf.steady c.load_part.new.shelf) c.in-Ok.ensures.stays c.in-Ok.ensures.ok (rounds_read rounds) (g.S.Shelf.faults c.load_marks.new.shelf) c.in-Ok-load_marks.ensures.ok c.in-Ok-saved.text.items made

pub returns-clause-stopped : goal.returns-clause-stopped
returns-clause-stopped g c =
    let rounds = c.in-Ok-load_marks.rounds.items in
    let stops = subst (λ (s : List ℕ × List RoundMarks). StopsBy (SavesTo (s.0, c.in-Ok.part.1) (save_said c.args.save.now) (rounds_read s.1)) c.in-Err-saved.stop) (λ i. (c.deref.ensures.value i, c.deref-2.ensures.value i)) c.in-Err-saved.ensures.stopped in
    rounds-stop (save_said c.args.save.now).macro_file (save_said c.args.save.now).marks_file RefusesMacro AcceptsPart (λ read rounds. SavesTo read (save_said c.args.save.now) rounds) (g.S.Shelf.files c.args.shelf.now) (g.S.Shelf.steady c.args.shelf.now) (g.S.Shelf.faults c.args.shelf.now) (c.in-Ok.part.0.items, c.in-Ok.part.1) (g.S.Shelf.faults c.load_part.new.shelf) (g.S.Shelf.files c.load_part.new.shelf) c.in-Ok.ensures.same (g.S.Shelf.steady c.load_part.new.shelf) c.in-Ok.ensures.stays c.in-Ok.ensures.ok (rounds_read rounds) (g.S.Shelf.faults c.load_marks.new.shelf) c.in-Ok-load_marks.ensures.ok (save_status (c.in-Ok.part.0.items, c.in-Ok.part.1) (save_said c.args.save.now) (rounds_read rounds)) c.in-Err-saved.stop stops
