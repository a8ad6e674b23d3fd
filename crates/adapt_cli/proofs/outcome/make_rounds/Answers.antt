use Rattle.std.proofs.Common.{ℕ, ap, ◌∙◌, subst}
use Rattle.std.proofs.lemmas.Result.{IfErr-weaker, IfOk-weaker}
use Rattle.compat_check.specs.Meshes.{Mesh}
use Rattle.forest_plain.specs.AnyForest.{Seen}
use Rattle.mark_file.specs.Meaning.{rounds_read}
use Rattle.adapt_words.specs.Rounds.{run_said}
use Rattle.mesh_rounds.specs.Adaptive.{state_of}
use Rattle.mesh_rounds.specs.Texts.{IsTextOfState}
use Rattle.adapt_cli.specs.Rounds.{LeadTo}
use Rattle.adapt_cli.specs.Stops.{IsReportedRun, IsRun, StopsBy}
use Rattle.adapt_cli.proofs.Outcomes.{ends_in_report, ends_in_text, ends_refused}
use Rattle.adapt_cli.proofs.outcome.make_rounds.Goals as goal

pub returns-in-Err-clause-stopped : goal.returns-in-Err-clause-stopped
returns-in-Err-clause-stopped g c =
    let first = state_of c.in-Ok.mesh in
    let rounds = rounds_read c.args.rounds.now in
    let pool = ap (λ (s : Seen). s.pool) c.in-Ok.ensures.forest ∙ c.new-forest.ensures.pool in
    ends_refused c.args.macro_mesh.now (run_said c.args.run.now) rounds first c.in-Err.stop c.in-Ok.ensures.first
    (subst (λ (t : Mesh × ℕ). StopsBy (LeadTo t.0 t.1 rounds first) c.in-Err.stop) (λ i. (c.in-Ok.ensures.mesh i, pool i)) c.in-Err.ensures.stopped)

pub returns-in-Ok-text-clause-ok : goal.returns-in-Ok-text-clause-ok
returns-in-Ok-text-clause-ok g c =
    let first = state_of c.in-Ok.mesh in
    let last = state_of c.run_rounds.new.mesh in
    let rounds = rounds_read c.args.rounds.now in
    let text = c.in-Ok-text.text.items in
    let pool = ap (λ (s : Seen). s.pool) c.in-Ok.ensures.forest ∙ c.new-forest.ensures.pool in
    ends_in_text c.args.macro_mesh.now (run_said c.args.run.now) rounds first last text c.if-run.false c.in-Ok.ensures.first
    (subst (λ (t : Mesh × ℕ). IsRun t.0 t.1 rounds first last) (λ i. (c.in-Ok.ensures.mesh i, pool i)) c.in_default-run_rounds.ensures.ok)
    (subst (λ (m : Mesh). IsTextOfState m last text) (c.in_default-run_rounds.ensures.same ∙ c.in-Ok.ensures.mesh) c.in-Ok-text.ensures.ok)

pub returns-then-run-clause-ok : goal.returns-then-run-clause-ok
returns-then-run-clause-ok g c =
    let first = state_of c.in-Ok.mesh in
    let rounds = rounds_read c.args.rounds.now in
    let pool = ap (λ (s : Seen). s.pool) c.in-Ok.ensures.forest ∙ c.new-forest.ensures.pool in
    IfOk-weaker c.report_rounds.result _ _ (λ text h. ends_in_report c.args.macro_mesh.now (run_said c.args.run.now) rounds first text.items c.if-run.true c.in-Ok.ensures.first
    (subst (λ (t : Mesh × ℕ). IsReportedRun t.0 t.1 rounds first text.items) (λ i. (c.in-Ok.ensures.mesh i, pool i)) h)) c.report_rounds.ensures.ok

pub returns-then-run-clause-stopped : goal.returns-then-run-clause-stopped
returns-then-run-clause-stopped g c =
    let first = state_of c.in-Ok.mesh in
    let rounds = rounds_read c.args.rounds.now in
    let pool = ap (λ (s : Seen). s.pool) c.in-Ok.ensures.forest ∙ c.new-forest.ensures.pool in
    IfErr-weaker c.report_rounds.result _ _ (λ stop h. ends_refused c.args.macro_mesh.now (run_said c.args.run.now) rounds first stop c.in-Ok.ensures.first
    (subst (λ (t : Mesh × ℕ). StopsBy (LeadTo t.0 t.1 rounds first) stop) (λ i. (c.in-Ok.ensures.mesh i, pool i)) h)) c.report_rounds.ensures.stopped
