use Rattle.std.proofs.Common.{◌<◌, ◌+◌, ℕ, ap, arith, ◌∙◌, length, subst, sym}
use Rattle.std.proofs.lemmas.List.{length-map}
use Rattle.std.proofs.lemmas.Result.{IfOk-weaker}
use Rattle.compat_check.specs.Meshes.{Mesh}
use Rattle.forest_plain.specs.AnyForest.{Seen}
use Rattle.mark_file.specs.Meaning.{round_read, rounds_read}
use Rattle.adapt_words.specs.Rounds.{mark_said}
use Rattle.mesh_rounds.specs.Adaptive.{state_of}
use Rattle.adapt_cli.specs.Marks.{IsMarksText}
use Rattle.adapt_cli.specs.Rounds.{LeadTo}
use Rattle.adapt_cli.specs.Stops.{IsRun, StopsBy}
use Rattle.adapt_cli.proofs.MarkOutcomes.{marks_made, marks_refused}
use Rattle.adapt_cli.proofs.marking.mark_leaves.Goals as goal

pub returns-in-Err-clause-stopped : goal.returns-in-Err-clause-stopped
returns-in-Err-clause-stopped c =
    let first = state_of c.in-Ok.mesh in
    let rounds = rounds_read c.args.rounds.now in
    let many = length-map c.args.rounds.now round_read in
    let left : length rounds < 65535 = omega (arith, many, c.requires.left) in
    let pool = ap (λ (s : Seen). s.pool) c.in-Ok.ensures.forest ∙ c.new-forest.ensures.pool in
    marks_refused c.args.macro_mesh.now (mark_said c.args.mark.now) rounds first c.in-Err.stop left c.in-Ok.ensures.first
    (subst (λ (t : Mesh × ℕ). StopsBy (LeadTo t.0 t.1 rounds first) c.in-Err.stop) (λ i. (c.in-Ok.ensures.mesh i, pool i)) c.in-Err.ensures.stopped)

pub returns-clause-ok : goal.returns-clause-ok
returns-clause-ok c =
    let first = state_of c.in-Ok.mesh in
    let last = state_of c.run_rounds.new.mesh in
    let rounds = rounds_read c.args.rounds.now in
    let many = length-map c.args.rounds.now round_read in
    let left : length rounds < 65535 = omega (arith, many, c.requires.left) in
    let pool = ap (λ (s : Seen). s.pool) c.in-Ok.ensures.forest ∙ c.new-forest.ensures.pool in
    IfOk-weaker c.state_marks.result _ _ (λ text h. marks_made c.args.macro_mesh.now (mark_said c.args.mark.now) rounds first last text.items left c.in-Ok.ensures.first
    (subst (λ (t : Mesh × ℕ). IsRun t.0 t.1 rounds first last) (λ i. (c.in-Ok.ensures.mesh i, pool i)) c.in_default-run_rounds.ensures.ok)
    (subst (λ (t : Mesh × ℕ). IsMarksText t.0 c.args.mark.now.rule (t.1 + 1) last text.items) (λ i. ((c.in_default-run_rounds.ensures.same ∙ c.in-Ok.ensures.mesh) i, sym many i)) h)) c.state_marks.ensures.ok
