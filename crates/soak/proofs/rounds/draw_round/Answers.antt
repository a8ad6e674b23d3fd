use Rattle.std.proofs.Common.{◌≡◌, ◌∙◌, ap, arith}
use Rattle.std.proofs.lemmas.List.{take_all}
use Rattle.std.proofs.lemmas.List.Elements.{All-same}
use Rattle.mesh_names.specs.Marks.{IsWellFormed}
use Rattle.mesh_names.specs.Triangles.{level}
use Rattle.compat_check.specs.Meshes.{shape_of}
use Rattle.soak.specs.Rows.{IsDrawn, rows_for}
use Rattle.soak.proofs.DrawnRows.{all_drawn, all_formed}
use Rattle.soak.proofs.RoundRows.{next_leaf}
use Rattle.soak.proofs.rounds.draw_round.Goals as goal

pub loop-leaf-preserved : goal.loop-leaf-preserved
loop-leaf-preserved c =
    next_leaf (level (shape_of c.args.mesh.now)) c.args.draws.now c.args.leaves.now c.loop-leaf.leaf-index c.leaf-item.result _ c.loop-leaf.rows.items c.draw_row.new.rows.items c.loop-leaf.draws c.draw_row.new.draws c.loop-leaf-test.true c.leaf-item.is c.loop-leaf.invariant c.in_ok-draw_row.ensures.rows c.in_ok-draw_row.ensures.draws

pub returns-clause-formed : goal.returns-clause-formed
returns-clause-formed c =
    let level_of = level (shape_of c.args.mesh.now) in
    let all : c.loop-leaf.rows.items ≡ rows_for level_of c.args.draws.now c.args.leaves.now = c.loop-leaf.invariant.0 ∙ ap (rows_for level_of c.args.draws.now) (take_all c.loop-leaf.leaf-index c.args.leaves.now (omega arith)) in
    All-same IsWellFormed c.loop-leaf.rows.items (rows_for level_of c.args.draws.now c.args.leaves.now) all (all_formed level_of c.args.draws.now c.args.leaves.now)

pub returns-clause-drawn : goal.returns-clause-drawn
returns-clause-drawn c =
    let level_of = level (shape_of c.args.mesh.now) in
    let all : c.loop-leaf.rows.items ≡ rows_for level_of c.args.draws.now c.args.leaves.now = c.loop-leaf.invariant.0 ∙ ap (rows_for level_of c.args.draws.now) (take_all c.loop-leaf.leaf-index c.args.leaves.now (omega arith)) in
    All-same (IsDrawn level_of c.args.leaves.now) c.loop-leaf.rows.items (rows_for level_of c.args.draws.now c.args.leaves.now) all (all_drawn level_of c.args.draws.now c.args.leaves.now)
