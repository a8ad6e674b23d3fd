use Rattle.std.proofs.Common.{List, ℕ, ap, ◌∙◌, subst, sym}
use Rattle.mesh_names.specs.Names.{Name}
use Rattle.compat_check.specs.Meshes.{Mesh}
use Rattle.forest_plain.specs.AnyForest.{Seen}
use Rattle.mark_file.specs.Meaning.{rounds_read}
use Rattle.locate_point.specs.PlaceTexts.{IsPlacesText}
use Rattle.mesh_rounds.specs.Adaptive.{state_of}
use Rattle.mesh_rounds.specs.State.{IsState}
use Rattle.mesh_rounds.specs.Texts.{AreLeaves}
use Rattle.adapt_words.specs.Finding.{find_said}
use Rattle.adapt_cli.specs.Rounds.{LeadTo}
use Rattle.adapt_cli.specs.Stops.{IsRun, StopsBy}
use Rattle.adapt_cli.proofs.FindOutcomes.{find_made, find_refused}
use Rattle.adapt_cli.proofs.finding.places.Goals as goal

pub returns-in-Err-clause-stopped : goal.returns-in-Err-clause-stopped
returns-in-Err-clause-stopped c =
    let first = state_of c.in-Ok.mesh in
    let rounds = rounds_read c.args.rounds.now in
    let pool = ap (λ (s : Seen). s.pool) c.in-Ok.ensures.forest ∙ c.new-forest.ensures.pool in
    find_refused c.args.macro_mesh.now (find_said c.args.find.now) rounds c.args.points.now first c.in-Err.stop c.in-Ok.ensures.first
    (subst (λ (t : Mesh × ℕ). StopsBy (LeadTo t.0 t.1 rounds first) c.in-Err.stop) (λ i. (c.in-Ok.ensures.mesh i, pool i)) c.in-Err.ensures.stopped)

pub put_places-requires-clause-leaves : goal.put_places-requires-clause-leaves
put_places-requires-clause-leaves c =
    let last = state_of c.run_rounds.new.mesh in
    let same = c.in_default-run_rounds.ensures.same ∙ c.in-Ok.ensures.mesh in (
      last.members,
      record {
        forest = (subst (λ (m : Mesh). IsState m last) same c.in_default-run_rounds.ensures.state).forest;
        listed = subst (λ (l : List Name). AreLeaves c.args.macro_mesh.now last l) (sym c.deref.ensures.value) (subst (λ (m : Mesh). AreLeaves m last c.in-Ok-leaves.leaves.items) same c.in-Ok-leaves.ensures.ok);
      },
    )

pub returns-in-Ok-put_places-clause-ok : goal.returns-in-Ok-put_places-clause-ok
returns-in-Ok-put_places-clause-ok c =
    let first = state_of c.in-Ok.mesh in
    let last = state_of c.run_rounds.new.mesh in
    let rounds = rounds_read c.args.rounds.now in
    let same = c.in_default-run_rounds.ensures.same ∙ c.in-Ok.ensures.mesh in
    let text = c.in-Ok-put_places.text.items in
    let list = c.in-Ok-leaves.leaves.items in
    let pool = ap (λ (s : Seen). s.pool) c.in-Ok.ensures.forest ∙ c.new-forest.ensures.pool in
    find_made c.args.macro_mesh.now (find_said c.args.find.now) rounds c.args.points.now first last list text c.in-Ok.ensures.first
    (subst (λ (t : Mesh × ℕ). IsRun t.0 t.1 rounds first last) (λ i. (c.in-Ok.ensures.mesh i, pool i)) c.in_default-run_rounds.ensures.ok)
    (subst (λ (m : Mesh). AreLeaves m last list) same c.in-Ok-leaves.ensures.ok)
    (subst (λ (l : List Name). IsPlacesText c.args.macro_mesh.now l c.args.points.now text) c.deref.ensures.value c.in-Ok-put_places.ensures)
