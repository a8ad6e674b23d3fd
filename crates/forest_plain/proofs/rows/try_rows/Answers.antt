use Rattle.std.proofs.Common.{refl, subst, sym, ◌∙◌}
use Rattle.std.specs.Prelude.{IfErr, OnOk}
use Rattle.mesh_names.specs.Forests.{Names}
use Rattle.compat_check.specs.Meshes.{shape_of}
use Rattle.forest_plain.specs.Rounds.{BisectsEvery, IsDeepestLeaf, IsFine, IsRowFault}
use Rattle.forest_plain.proofs.RowOrder.{all_at, first_fault, all-next, all_taken}
use Rattle.forest_plain.proofs.rows.try_rows.Goals as goal

pub returns-in-Err-clause-refused : goal.returns-in-Err-clause-refused
returns-in-Err-clause-refused g c =
    let fault = subst (λ (s : Names). IsRowFault (shape_of c.args.mesh.now) s c.row-item.result c.in-Err.refusal) c.loop-row.invariant.same c.in-Err.ensures.refused in
    first_fault (shape_of c.args.mesh.now) (g.S.Asked.names c.args.members.now) c.args.rows.now c.loop-row.row-index c.row-item.result _ c.in-Err.refusal c.loop-row-test.true c.row-item.is c.loop-row.invariant.fine fault

pub returns-in-Err-clause-same : goal.returns-in-Err-clause-same
returns-in-Err-clause-same g c = c.in-Err.ensures.same ∙ c.loop-row.invariant.same

pub loop-row-preserved : goal.loop-row-preserved
loop-row-preserved g c =
    let fine = subst (λ (s : Names). IsFine (shape_of c.args.mesh.now) s c.row-item.result) c.loop-row.invariant.same c.in_default.ensures.ok in
    record {
      fine = all-next (IsFine (shape_of c.args.mesh.now) (g.S.Asked.names c.args.members.now)) c.args.rows.now c.loop-row.row-index c.row-item.result _ c.loop-row-test.true c.row-item.is c.loop-row.invariant.fine fine;
      same = c.in_default.ensures.same ∙ c.loop-row.invariant.same;
    }

pub returns-clause-ok : goal.returns-clause-ok
returns-clause-ok g c = all_taken (IsFine (shape_of c.args.mesh.now) (g.S.Asked.names c.args.members.now)) c.args.rows.now c.loop-row.row-index c.loop-row-test.false c.loop-row.invariant.fine

pub try_row-requires-clause-deepest : goal.try_row-requires-clause-deepest
try_row-requires-clause-deepest g c =
    let deepest = all_at (λ row. BisectsEvery row → IsDeepestLeaf (shape_of c.args.mesh.now) (g.S.Asked.names c.args.members.now) c.args.deepest) c.args.rows.now c.loop-row.row-index c.row-item.result _ c.requires.deepest c.loop-row-test.true c.row-item.is in
    subst (λ (s : Names). BisectsEvery c.row-item.result → IsDeepestLeaf (shape_of c.args.mesh.now) s c.args.deepest) (sym c.loop-row.invariant.same) deepest
