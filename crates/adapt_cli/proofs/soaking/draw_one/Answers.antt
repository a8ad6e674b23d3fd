use Rattle.std.proofs.Common.{◌≡◌, All, List, ◌∙◌, ap, refl, sym, subst}
use Rattle.mesh_names.specs.Names.{Name}
use Rattle.mesh_names.specs.Triangles.{level}
use Rattle.compat_check.specs.Meshes.{Mesh, across_in, shape_of}
use Rattle.forest_plain.specs.AnyForest.{Seen}
use Rattle.forest_plain.specs.Rounds.{IsRoundRefusal}
use Rattle.mesh_rounds.specs.Adaptive.{mesh_of, seen_of, state_of}
use Rattle.mesh_rounds.specs.Texts.{AreLeaves}
use Rattle.soak.specs.Rows.{IsDrawn, rows_for}
use Rattle.adapt_cli.specs.Rounds.{whole}
use Rattle.adapt_cli.proofs.Drawing.{draw-stops}
use Rattle.adapt_cli.proofs.RoundOrder.{refused-as}
use Rattle.adapt_cli.proofs.soaking.draw_one.Goals as goal

pub returns-clause-stopped : goal.returns-clause-stopped
returns-clause-stopped c =
    let start = c.args.mesh.now in
    let mesh = mesh_of start in
    let here = c.leaves.new.self in
    let kept = c.in-Ok.ensures.same in
    let pool = ap (λ (s : Seen). s.pool) kept.forest in
    let drawn_on = c.macro_mesh.ensures ∙ kept.mesh in
    let rows = c.in-Ok-draw_round.marks.rows.items in
    let listed = subst (λ (l : List Name). AreLeaves mesh (state_of start) l) (sym c.deref.ensures.value) c.in-Ok.ensures.ok in
    draw-stops mesh (seen_of start).pool c.args.number c.args.draws.now (state_of start) c.deref.result.now c.in-Ok-draw_round.marks.rows.items c.in-Err.refusal c.round_stop.result
    c.requires.state.forest
    listed
    (subst (λ (m : Mesh). All (IsDrawn (level (shape_of m)) c.deref.result.now) rows) drawn_on c.in-Ok-draw_round.ensures.drawn)
    (subst (λ (m : Mesh). rows ≡ rows_for (level (shape_of m)) c.args.draws.now c.deref.result.now) drawn_on c.in-Ok-draw_round.ensures.rows)
    (subst (λ (s : Seen). IsRoundRefusal (shape_of mesh) (across_in mesh) (whole (seen_of start).pool) s.members rows c.in-Err.refusal) kept.forest
    (refused-as mesh (seen_of here) (seen_of start).pool c.in-Ok-draw_round.marks.rows.items c.in-Err.refusal (here.shape ∙ ap shape_of kept.mesh) (here.sides ∙ ap across_in kept.mesh) pool refl c.in-Err.ensures.refused))
    c.round_stop.ensures
