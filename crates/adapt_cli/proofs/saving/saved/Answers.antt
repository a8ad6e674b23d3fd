use Rattle.std.proofs.Common.{ℕ, List, ap, ◌∙◌, subst, sym}
use Rattle.mesh_names.specs.Forests.{IsListOf}
use Rattle.mesh_names.specs.Names.{Name}
use Rattle.compat_check.specs.Meshes.{Mesh}
use Rattle.forest_plain.specs.AnyForest.{Seen}
use Rattle.mark_file.specs.Meaning.{rounds_read}
use Rattle.restart_file.specs.Files.{IsRestart}
use Rattle.mesh_rounds.specs.Adaptive.{state_of}
use Rattle.mesh_rounds.specs.State.{IsState}
use Rattle.adapt_words.specs.Restarts.{save_said}
use Rattle.adapt_cli.specs.Rounds.{LeadTo}
use Rattle.adapt_cli.specs.Stops.{IsRun, StopsBy}
use Rattle.adapt_cli.proofs.RestartOutcomes.{kept_state, save_made, save_refused}
use Rattle.adapt_cli.proofs.saving.saved.Goals as goal

pub returns-in-Err-clause-stopped : goal.returns-in-Err-clause-stopped
returns-in-Err-clause-stopped c =
    let first = state_of c.in-Ok.mesh in
    let rounds = rounds_read c.args.rounds.now in
    let pool = ap (λ (s : Seen). s.pool) c.in-Ok.ensures.forest ∙ c.new-forest.ensures.pool in
    save_refused (c.args.part.now, c.args.macro_mesh.now) (save_said c.args.save.now) rounds first c.in-Err.stop c.in-Ok.ensures.first
    (subst (λ (t : Mesh × ℕ). StopsBy (LeadTo t.0 t.1 rounds first) c.in-Err.stop) (λ i. (c.in-Ok.ensures.mesh i, pool i)) c.in-Err.ensures.stopped)

pub put_restart-requires-clause-members : goal.put_restart-requires-clause-members
put_restart-requires-clause-members c =
    let last = state_of c.run_rounds.new.mesh in
    let same = c.in_default-run_rounds.ensures.same ∙ c.in-Ok.ensures.mesh in
    kept_state c.args.macro_mesh.now c.element_count-checked.ensures.checked last (subst (λ (m : Mesh). IsState m last) same c.in_default-run_rounds.ensures.state) c.deref.result.now (subst (IsListOf last.members) (sym c.deref.ensures.value) (subst (λ (s : Seen). IsListOf s.members c.in-Ok-members.members.items) c.forest.ensures.seen c.in-Ok-members.ensures))

pub returns-in-Ok-put_restart-clause-ok : goal.returns-in-Ok-put_restart-clause-ok
returns-in-Ok-put_restart-clause-ok c =
    let first = state_of c.in-Ok.mesh in
    let last = state_of c.run_rounds.new.mesh in
    let rounds = rounds_read c.args.rounds.now in
    let text = c.in-Ok-put_restart.text.items in
    let pool = ap (λ (s : Seen). s.pool) c.in-Ok.ensures.forest ∙ c.new-forest.ensures.pool in
    save_made (c.args.part.now, c.args.macro_mesh.now) (save_said c.args.save.now) rounds first last text c.in-Ok-members.members.items c.in-Ok.ensures.first
    (subst (λ (t : Mesh × ℕ). IsRun t.0 t.1 rounds first last) (λ i. (c.in-Ok.ensures.mesh i, pool i)) c.in_default-run_rounds.ensures.ok) (subst (λ (s : Seen). IsListOf s.members c.in-Ok-members.members.items) c.forest.ensures.seen c.in-Ok-members.ensures)
    (subst (λ (l : List Name). IsRestart text c.args.part.now c.args.macro_mesh.now l) c.deref.ensures.value c.in-Ok-put_restart.ensures.ok)
