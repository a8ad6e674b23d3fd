use Rattle.std.proofs.Common.{ℕ, ap, ◌∙◌, subst, sym}
use Rattle.mesh_names.specs.Forests.{Names}
use Rattle.compat_check.specs.Meshes.{Mesh}
use Rattle.forest_plain.specs.AnyForest.{Seen}
use Rattle.forest_tree.specs.Forests.{members_of, mesh_of, sides_of}
use Rattle.mark_file.specs.Meaning.{rounds_read}
use Rattle.adapt_words.specs.Restarts.{resume_said}
use Rattle.mesh_rounds.specs.Adaptive.{state_of}
use Rattle.mesh_rounds.specs.Resumed.{IsWhole}
use Rattle.mesh_rounds.specs.Texts.{IsTextOfState}
use Rattle.adapt_cli.specs.Rounds.{LeadTo}
use Rattle.adapt_cli.specs.Stops.{IsRun, StopsBy}
use Rattle.adapt_cli.proofs.ResumeOutcomes.{kept_stands, kept_whole, resume_made, resume_refused}
use Rattle.adapt_cli.proofs.resuming.make_rounds.Goals as goal

pub of_members-requires : goal.of_members-requires
of_members-requires g c = kept_stands c.args.macro_mesh.now c.args.members.now c.element_count-checked.ensures.checked c.requires.kept c.args.resume.now.pool (rounds_read c.args.rounds.now) c.requires.can c.requires.ranges.2 c.requires.ranges.3

pub resumed-requires-clause-whole : goal.resumed-requires-clause-whole
resumed-requires-clause-whole g c =
    subst (λ (s : Names). IsWhole c.args.macro_mesh.now s c.in-Ok-patches_from_nothing.delta) (sym c.in-Ok.ensures.members)
    (kept_whole c.args.macro_mesh.now c.args.members.now c.element_count-checked.ensures.checked c.requires.kept (mesh_of c.in-Ok.forest) (sides_of c.in-Ok.forest) (members_of c.in-Ok.forest) c.in-Ok-patches_from_nothing.delta c.in-Ok.ensures.mesh c.in-Ok.ensures.sides c.in-Ok.ensures.members c.in-Ok-patches_from_nothing.ensures.born c.in-Ok-patches_from_nothing.ensures.died)

pub returns-in-Err-clause-stopped : goal.returns-in-Err-clause-stopped
returns-in-Err-clause-stopped g c =
    let start = state_of c.in-Ok-resumed.mesh in
    let rounds = rounds_read c.args.rounds.now in
    let made = c.in-Ok-resumed.ensures in
    let pool = ap (λ (s : Seen). s.pool) made.forest ∙ c.in-Ok.ensures.pool in
    resume_refused c.args.macro_mesh.now c.args.members.now (resume_said c.args.resume.now) rounds start c.in-Err.stop c.requires.can
    (record { members_are = ap (λ (s : Seen). s.members) made.forest ∙ c.in-Ok.ensures.members; resumed = made.resumed })
    (subst (λ (t : Mesh × ℕ). StopsBy (LeadTo t.0 t.1 rounds start) c.in-Err.stop) (λ i. (made.mesh i, pool i)) c.in-Err.ensures.stopped)

pub returns-in-Ok-text-clause-ok : goal.returns-in-Ok-text-clause-ok
returns-in-Ok-text-clause-ok g c =
    let start = state_of c.in-Ok-resumed.mesh in
    let last = state_of c.run_rounds.new.mesh in
    let rounds = rounds_read c.args.rounds.now in
    let text = c.in-Ok-text.text.items in
    let made = c.in-Ok-resumed.ensures in
    let pool = ap (λ (s : Seen). s.pool) made.forest ∙ c.in-Ok.ensures.pool in
    resume_made c.args.macro_mesh.now c.args.members.now (resume_said c.args.resume.now) rounds start last text c.requires.can
    (record { members_are = ap (λ (s : Seen). s.members) made.forest ∙ c.in-Ok.ensures.members; resumed = made.resumed })
    (subst (λ (t : Mesh × ℕ). IsRun t.0 t.1 rounds start last) (λ i. (made.mesh i, pool i)) c.in_default-run_rounds.ensures.ok)
    (subst (λ (m : Mesh). IsTextOfState m last text) (c.in_default-run_rounds.ensures.same ∙ made.mesh) c.in-Ok-text.ensures.ok)
