use Rattle.std.proofs.Common.{map, refl, subst}
use Rattle.std.specs.Prelude.{Ok, Err, string_bytes}
use Rattle.adapt_words.specs.Finding.{find_said}
use Rattle.adapt_words.specs.Mending.{mend_said}
use Rattle.adapt_words.specs.Restarts.{join_said, resume_said, save_said}
use Rattle.adapt_words.specs.Rounds.{mark_said, run_said}
use Rattle.adapt_words.specs.Words.{Answers, command_of, find, join, mark, mend, resume, run, said, save}
use Rattle.adapt_words.specs.declared.words.Command.{Command}
use Rattle.adapt_words.specs.declared.words.WordsRefusal.{WordsRefusal}
use Rattle.adapt_cli.specs.Finding.{FindAsks, FindLeads}
use Rattle.adapt_cli.specs.Marks.{MarkAsks, MarkLeads}
use Rattle.adapt_cli.specs.Mending.{MendAsks, MendLeads}
use Rattle.adapt_cli.specs.Outcome.{RunAsks, RunLeads}
use Rattle.adapt_cli.specs.Resuming.{ResumeAsks, ResumeLeads}
use Rattle.adapt_cli.specs.Restarts.{JoinAsks, JoinLeads, SaveAsks, SaveLeads}
use Rattle.adapt_cli.proofs.Parts.{written}
use Rattle.adapt_cli.proofs.Endings.{ends_outside, ends_wanting, finished}
use Rattle.adapt_cli.proofs.program.adapt.Goals as goal

pub returns-in-Err-Outside : goal.returns-in-Err-Outside
returns-in-Err-Outside g c =
    ends_outside (record { command = command_of (map string_bytes c.args.words.now); files = g.S.Shelf.files c.args.shelf.now; steady = g.S.Shelf.steady c.args.shelf.now; before = g.S.Shelf.faults c.args.shelf.now; now = g.S.Shelf.faults c.args.shelf.now })
    (written (g.O.Sink.holds c.args.out.now) (g.O.Sink.holds c.args.out.now) (g.O.Sink.faults c.args.out.now) (g.O.Sink.faults c.args.out.now))
    (written (g.E.Sink.holds c.args.err.now) (g.E.Sink.holds c.write_line.new.err) (g.E.Sink.faults c.args.err.now) (g.E.Sink.faults c.write_line.new.err))
    (record { same = refl; calm = refl }) (subst (λ (r : WordsRefusal). Answers said (command_of (map string_bytes c.args.words.now)) (Err r)) c.in-Err-Outside.field-0-is c.in-Err-Outside.ensures.told) refl c.write_line.result c.write_line.ensures

pub returns-in-Err-Memory : goal.returns-in-Err-Memory
returns-in-Err-Memory g c =
    ends_wanting (record { command = command_of (map string_bytes c.args.words.now); files = g.S.Shelf.files c.args.shelf.now; steady = g.S.Shelf.steady c.args.shelf.now; before = g.S.Shelf.faults c.args.shelf.now; now = g.S.Shelf.faults c.args.shelf.now })
    (written (g.O.Sink.holds c.args.out.now) (g.O.Sink.holds c.args.out.now) (g.O.Sink.faults c.args.out.now) (g.O.Sink.faults c.args.out.now))
    (written (g.E.Sink.holds c.args.err.now) (g.E.Sink.holds c.write_line-in-Err-Memory.new.err) (g.E.Sink.faults c.args.err.now) (g.E.Sink.faults c.write_line-in-Err-Memory.new.err))
    (record { same = refl; calm = refl }) refl c.write_line-in-Err-Memory.result c.write_line-in-Err-Memory.ensures

pub returns-in-Ok-Run : goal.returns-in-Ok-Run
returns-in-Ok-Run g c =
    let told = command_of (map string_bytes c.args.words.now) in
    finished (RunLeads (run_said c.in-Ok-Run.run')) (RunAsks (run_said c.in-Ok-Run.run')) (run (run_said c.in-Ok-Run.run')) told (subst (λ (x : Command). Answers said told (Ok x)) c.in-Ok-Run.field-0-is c.in-Ok-Run.ensures.told) (g.S.Shelf.files c.args.shelf.now) (g.S.Shelf.steady c.args.shelf.now) (g.S.Shelf.faults c.args.shelf.now) (g.S.Shelf.faults c.run_text.new.shelf) (λ end h. h) (λ name h. h) c.run_text.result
    (written (g.O.Sink.holds c.args.out.now) (g.O.Sink.holds c.finish.new.out) (g.O.Sink.faults c.args.out.now) (g.O.Sink.faults c.finish.new.out))
    (written (g.E.Sink.holds c.args.err.now) (g.E.Sink.holds c.finish.new.err) (g.E.Sink.faults c.args.err.now) (g.E.Sink.faults c.finish.new.err))
    c.finish.result c.run_text.ensures.ok c.run_text.ensures.stopped c.finish.ensures

pub returns-in-Ok-Mark : goal.returns-in-Ok-Mark
returns-in-Ok-Mark g c =
    let told = command_of (map string_bytes c.args.words.now) in
    finished (MarkLeads (mark_said c.in-Ok-Mark.mark)) (MarkAsks (mark_said c.in-Ok-Mark.mark)) (mark (mark_said c.in-Ok-Mark.mark)) told (subst (λ (x : Command). Answers said told (Ok x)) c.in-Ok-Mark.field-0-is c.in-Ok-Mark.ensures.told) (g.S.Shelf.files c.args.shelf.now) (g.S.Shelf.steady c.args.shelf.now) (g.S.Shelf.faults c.args.shelf.now) (g.S.Shelf.faults c.mark_text.new.shelf) (λ end h. h) (λ name h. h) c.mark_text.result
    (written (g.O.Sink.holds c.args.out.now) (g.O.Sink.holds c.finish-in-Ok-Mark.new.out) (g.O.Sink.faults c.args.out.now) (g.O.Sink.faults c.finish-in-Ok-Mark.new.out))
    (written (g.E.Sink.holds c.args.err.now) (g.E.Sink.holds c.finish-in-Ok-Mark.new.err) (g.E.Sink.faults c.args.err.now) (g.E.Sink.faults c.finish-in-Ok-Mark.new.err))
    c.finish-in-Ok-Mark.result c.mark_text.ensures.ok c.mark_text.ensures.stopped c.finish-in-Ok-Mark.ensures

pub returns-in-Ok-Mend : goal.returns-in-Ok-Mend
returns-in-Ok-Mend g c =
    let told = command_of (map string_bytes c.args.words.now) in
    finished (MendLeads (mend_said c.in-Ok-Mend.mend)) (MendAsks (mend_said c.in-Ok-Mend.mend)) (mend (mend_said c.in-Ok-Mend.mend)) told (subst (λ (x : Command). Answers said told (Ok x)) c.in-Ok-Mend.field-0-is c.in-Ok-Mend.ensures.told) (g.S.Shelf.files c.args.shelf.now) (g.S.Shelf.steady c.args.shelf.now) (g.S.Shelf.faults c.args.shelf.now) (g.S.Shelf.faults c.mend_text.new.shelf) (λ end h. h) (λ name h. h) c.mend_text.result
    (written (g.O.Sink.holds c.args.out.now) (g.O.Sink.holds c.finish-in-Ok-Mend.new.out) (g.O.Sink.faults c.args.out.now) (g.O.Sink.faults c.finish-in-Ok-Mend.new.out))
    (written (g.E.Sink.holds c.args.err.now) (g.E.Sink.holds c.finish-in-Ok-Mend.new.err) (g.E.Sink.faults c.args.err.now) (g.E.Sink.faults c.finish-in-Ok-Mend.new.err))
    c.finish-in-Ok-Mend.result c.mend_text.ensures.ok c.mend_text.ensures.stopped c.finish-in-Ok-Mend.ensures

pub returns-in-Ok-Save : goal.returns-in-Ok-Save
returns-in-Ok-Save g c =
    let told = command_of (map string_bytes c.args.words.now) in
    finished (SaveLeads (save_said c.in-Ok-Save.save)) (SaveAsks (save_said c.in-Ok-Save.save)) (save (save_said c.in-Ok-Save.save)) told (subst (λ (x : Command). Answers said told (Ok x)) c.in-Ok-Save.field-0-is c.in-Ok-Save.ensures.told) (g.S.Shelf.files c.args.shelf.now) (g.S.Shelf.steady c.args.shelf.now) (g.S.Shelf.faults c.args.shelf.now) (g.S.Shelf.faults c.save_text.new.shelf) (λ end h. h) (λ name h. h) c.save_text.result
    (written (g.O.Sink.holds c.args.out.now) (g.O.Sink.holds c.finish-in-Ok-Save.new.out) (g.O.Sink.faults c.args.out.now) (g.O.Sink.faults c.finish-in-Ok-Save.new.out))
    (written (g.E.Sink.holds c.args.err.now) (g.E.Sink.holds c.finish-in-Ok-Save.new.err) (g.E.Sink.faults c.args.err.now) (g.E.Sink.faults c.finish-in-Ok-Save.new.err))
    c.finish-in-Ok-Save.result c.save_text.ensures.ok c.save_text.ensures.stopped c.finish-in-Ok-Save.ensures

pub returns-in-Ok-Join : goal.returns-in-Ok-Join
returns-in-Ok-Join g c =
    let told = command_of (map string_bytes c.args.words.now) in
    finished (JoinLeads (join_said c.in-Ok-Join.join)) (JoinAsks (join_said c.in-Ok-Join.join)) (join (join_said c.in-Ok-Join.join)) told (subst (λ (x : Command). Answers said told (Ok x)) c.in-Ok-Join.field-0-is c.in-Ok-Join.ensures.told) (g.S.Shelf.files c.args.shelf.now) (g.S.Shelf.steady c.args.shelf.now) (g.S.Shelf.faults c.args.shelf.now) (g.S.Shelf.faults c.join_text.new.shelf) (λ end h. h) (λ name h. h) c.join_text.result
    (written (g.O.Sink.holds c.args.out.now) (g.O.Sink.holds c.finish-in-Ok-Join.new.out) (g.O.Sink.faults c.args.out.now) (g.O.Sink.faults c.finish-in-Ok-Join.new.out))
    (written (g.E.Sink.holds c.args.err.now) (g.E.Sink.holds c.finish-in-Ok-Join.new.err) (g.E.Sink.faults c.args.err.now) (g.E.Sink.faults c.finish-in-Ok-Join.new.err))
    c.finish-in-Ok-Join.result c.join_text.ensures.ok c.join_text.ensures.stopped c.finish-in-Ok-Join.ensures

pub returns-in-Ok-Resume : goal.returns-in-Ok-Resume
returns-in-Ok-Resume g c =
    let told = command_of (map string_bytes c.args.words.now) in
    finished (ResumeLeads (resume_said c.in-Ok-Resume.resume)) (ResumeAsks (resume_said c.in-Ok-Resume.resume)) (resume (resume_said c.in-Ok-Resume.resume)) told (subst (λ (x : Command). Answers said told (Ok x)) c.in-Ok-Resume.field-0-is c.in-Ok-Resume.ensures.told) (g.S.Shelf.files c.args.shelf.now) (g.S.Shelf.steady c.args.shelf.now) (g.S.Shelf.faults c.args.shelf.now) (g.S.Shelf.faults c.resume_text.new.shelf) (λ end h. h) (λ name h. h) c.resume_text.result
    (written (g.O.Sink.holds c.args.out.now) (g.O.Sink.holds c.finish-in-Ok-Resume.new.out) (g.O.Sink.faults c.args.out.now) (g.O.Sink.faults c.finish-in-Ok-Resume.new.out))
    (written (g.E.Sink.holds c.args.err.now) (g.E.Sink.holds c.finish-in-Ok-Resume.new.err) (g.E.Sink.faults c.args.err.now) (g.E.Sink.faults c.finish-in-Ok-Resume.new.err))
    c.finish-in-Ok-Resume.result c.resume_text.ensures.ok c.resume_text.ensures.stopped c.finish-in-Ok-Resume.ensures

pub returns-in-Ok-Soak : goal.returns-in-Ok-Soak
returns-in-Ok-Soak g c =
    let told = command_of (map string_bytes c.args.words.now) in
    c.end_soak.ensures (record { command = told; files = g.S.Shelf.files c.args.shelf.now; steady = g.S.Shelf.steady c.args.shelf.now; before = g.S.Shelf.faults c.args.shelf.now; now = g.S.Shelf.faults c.args.shelf.now })
    (subst (λ (x : Command). Answers said told (Ok x)) c.in-Ok-Soak.field-0-is c.in-Ok-Soak.ensures.told) refl

pub returns-in-Ok-Find : goal.returns-in-Ok-Find
returns-in-Ok-Find g c =
    let told = command_of (map string_bytes c.args.words.now) in
    finished (FindLeads (find_said c.in-Ok-Find.find)) (FindAsks (find_said c.in-Ok-Find.find)) (find (find_said c.in-Ok-Find.find)) told (subst (λ (x : Command). Answers said told (Ok x)) c.in-Ok-Find.field-0-is c.in-Ok-Find.ensures.told) (g.S.Shelf.files c.args.shelf.now) (g.S.Shelf.steady c.args.shelf.now) (g.S.Shelf.faults c.args.shelf.now) (g.S.Shelf.faults c.find_text.new.shelf) (λ end h. h) (λ name h. h) c.find_text.result
    (written (g.O.Sink.holds c.args.out.now) (g.O.Sink.holds c.finish-in-Ok-Find.new.out) (g.O.Sink.faults c.args.out.now) (g.O.Sink.faults c.finish-in-Ok-Find.new.out))
    (written (g.E.Sink.holds c.args.err.now) (g.E.Sink.holds c.finish-in-Ok-Find.new.err) (g.E.Sink.faults c.args.err.now) (g.E.Sink.faults c.finish-in-Ok-Find.new.err))
    c.finish-in-Ok-Find.result c.find_text.ensures.ok c.find_text.ensures.stopped c.finish-in-Ok-Find.ensures
