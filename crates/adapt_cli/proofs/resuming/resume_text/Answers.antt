use Rattle.std.proofs.Common.{List, subst, sym}
use Rattle.std.specs.Prelude.{Ok}
use Rattle.mesh_names.specs.Names.{Name}
use Rattle.mesh_names.specs.declared.rows.RoundMarks.{RoundMarks}
use Rattle.compat_check.specs.Meshes.{shape_of}
use Rattle.mark_file.specs.Meaning.{rounds_read}
use Rattle.restart_file.specs.Kept.{IsKept}
use Rattle.adapt_words.specs.Restarts.{resume_said}
use Rattle.adapt_cli.specs.Restarts.{AcceptsRestart, Kept, RefusesRestart, kept_of}
use Rattle.adapt_cli.specs.Resuming.{ResumesTo}
use Rattle.adapt_cli.specs.Stops.{StopsBy}
use Rattle.adapt_cli.proofs.FilesInTurn.{first-stops, marks-stops, rounds-stop, rounds-text}
use Rattle.adapt_cli.proofs.ResumeOutcomes.{resume_status}
use Rattle.adapt_cli.proofs.resuming.resume_text.Goals as goal

pub returns-in-Err-clause-stopped : goal.returns-in-Err-clause-stopped
returns-in-Err-clause-stopped g c = first-stops (resume_said c.args.resume.now).restart_file (resume_said c.args.resume.now).marks_file RefusesRestart AcceptsRestart (λ (read : Kept) rounds. ResumesTo read.mesh read.members (resume_said c.args.resume.now) rounds) (g.S.Shelf.files c.args.shelf.now) (g.S.Shelf.steady c.args.shelf.now) (g.S.Shelf.faults c.args.shelf.now) (g.S.Shelf.faults c.load_restart.new.shelf) c.in-Err.stop c.in-Err.ensures.stopped

pub returns-in-Err-load_marks-clause-stopped : goal.returns-in-Err-load_marks-clause-stopped
returns-in-Err-load_marks-clause-stopped g c = marks-stops (resume_said c.args.resume.now).restart_file (resume_said c.args.resume.now).marks_file RefusesRestart AcceptsRestart (λ (read : Kept) rounds. ResumesTo read.mesh read.members (resume_said c.args.resume.now) rounds) (g.S.Shelf.files c.args.shelf.now) (g.S.Shelf.steady c.args.shelf.now) (g.S.Shelf.faults c.args.shelf.now) (kept_of c.in-Ok.restart) (g.S.Shelf.faults c.load_restart.new.shelf) (g.S.Shelf.files c.load_restart.new.shelf) c.in-Ok.ensures.same (g.S.Shelf.steady c.load_restart.new.shelf) c.in-Ok.ensures.stays c.in-Ok.ensures.ok (g.S.Shelf.faults c.load_marks.new.shelf) c.in-Err-load_marks.stop c.in-Err-load_marks.ensures.stopped

pub go_on-requires-clause-kept : goal.go_on-requires-clause-kept
go_on-requires-clause-kept g c _ _ = subst (λ (l : List Name). IsKept (shape_of c.in-Ok.restart.mesh) l) (sym c.deref.ensures.value) c.in-Ok.ensures.keeps.kept

pub returns-in-Ok-go_on-clause-ok : goal.returns-in-Ok-go_on-clause-ok
returns-in-Ok-go_on-clause-ok g c =
    let rounds = c.in-Ok-load_marks.rounds.items in
    let made = subst (λ (s : List Name × List RoundMarks). ResumesTo c.in-Ok.restart.mesh s.0 (resume_said c.args.resume.now) (rounds_read s.1) (Ok c.in-Ok-go_on.text.items)) (λ i. (c.deref.ensures.value i, c.deref-2.ensures.value i)) c.in-Ok-go_on.ensures.ok in
    rounds-text (resume_said c.args.resume.now).restart_file (resume_said c.args.resume.now).marks_file RefusesRestart AcceptsRestart (λ (read : Kept) rounds. ResumesTo read.mesh read.members (resume_said c.args.resume.now) rounds) (g.S.Shelf.files c.args.shelf.now) (g.S.Shelf.steady c.args.shelf.now) (g.S.Shelf.faults c.args.shelf.now) (kept_of c.in-Ok.restart) (g.S.Shelf.faults c.load_restart.new.shelf) (g.S.Shelf.files c.load_restart.new.shelf) c.in-Ok.ensures.same (g.S.Shelf.steady c.load_restart.new.shelf) c.in-Ok.ensures.stays c.in-Ok.ensures.ok (rounds_read rounds) (g.S.Shelf.faults c.load_marks.new.shelf) c.in-Ok-load_marks.ensures.ok c.in-Ok-go_on.text.items made

pub returns-clause-stopped : goal.returns-clause-stopped
returns-clause-stopped g c =
    let rounds = c.in-Ok-load_marks.rounds.items in
    let stops = subst (λ (s : List Name × List RoundMarks). StopsBy (ResumesTo c.in-Ok.restart.mesh s.0 (resume_said c.args.resume.now) (rounds_read s.1)) c.in-Err-go_on.stop) (λ i. (c.deref.ensures.value i, c.deref-2.ensures.value i)) c.in-Err-go_on.ensures.stopped in
    rounds-stop (resume_said c.args.resume.now).restart_file (resume_said c.args.resume.now).marks_file RefusesRestart AcceptsRestart (λ (read : Kept) rounds. ResumesTo read.mesh read.members (resume_said c.args.resume.now) rounds) (g.S.Shelf.files c.args.shelf.now) (g.S.Shelf.steady c.args.shelf.now) (g.S.Shelf.faults c.args.shelf.now) (kept_of c.in-Ok.restart) (g.S.Shelf.faults c.load_restart.new.shelf) (g.S.Shelf.files c.load_restart.new.shelf) c.in-Ok.ensures.same (g.S.Shelf.steady c.load_restart.new.shelf) c.in-Ok.ensures.stays c.in-Ok.ensures.ok (rounds_read rounds) (g.S.Shelf.faults c.load_marks.new.shelf) c.in-Ok-load_marks.ensures.ok (resume_status c.in-Ok.restart.mesh c.in-Ok.restart.members.items (resume_said c.args.resume.now) (rounds_read rounds)) c.in-Err-go_on.stop stops
