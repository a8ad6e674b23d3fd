use Rattle.std.proofs.Common.{sym, ap, ◌∙◌, subst, List}
use Rattle.std.specs.Prelude.{All}
use Rattle.mesh_names.specs.Names.{Name}
use Rattle.compat_check.specs.Meshes.{across_in, shape_of}
use Rattle.mesh_names.specs.Forests.{IsInMesh}
use Rattle.forest_plain.specs.Deltas.{owns_new}
use Rattle.forest_plain.proofs.Filtering.{filter-kept, filter-skipped}
use Rattle.forest_plain.proofs.RowOrder.{all-push, all_at}
use Rattle.forest_plain.proofs.delta.owners_of_new.Goals as goal
use Rattle.forest_plain.proofs.delta.owners_of_new.Goals.{then-owns_new+in_ok-push, else-owns_new}

pub loop-name-preserved : goal.loop-name-preserved
loop-name-preserved c =
    let p = owns_new (across_in c.args.mesh.now) c.args.old.now in
    let is = λ (l : List Name). All (IsInMesh (shape_of c.args.mesh.now)) l in
    elim c.if-owns_new.branch [
      | then-owns_new+in_ok-push w ↦ (
        filter-kept p c.args.names.now c.loop-name.owners.items c.if-owns_new.owners.items c.loop-name.name-index c.name-item.result _ c.loop-name-test.true c.name-item.is (sym c.owns_new.ensures ∙ w.if-owns_new.true) c.loop-name.invariant.0 (ap (λ v. v.items) w.owners-is ∙ w.in_ok-push.ensures.items),
        subst is (sym (ap (λ v. v.items) w.owners-is ∙ w.in_ok-push.ensures.items)) (all-push (IsInMesh (shape_of c.args.mesh.now)) c.loop-name.owners.items c.name-item.result c.loop-name.invariant.1 (all_at (IsInMesh (shape_of c.args.mesh.now)) c.args.names.now c.loop-name.name-index c.name-item.result _ c.requires c.loop-name-test.true c.name-item.is)),
      )
      | else-owns_new w ↦ (
        filter-skipped p c.args.names.now c.loop-name.owners.items c.if-owns_new.owners.items c.loop-name.name-index c.name-item.result _ c.loop-name-test.true c.name-item.is (sym c.owns_new.ensures ∙ w.if-owns_new.false) c.loop-name.invariant.0 (ap (λ v. v.items) w.owners-is),
        subst is (sym (ap (λ v. v.items) w.owners-is)) c.loop-name.invariant.1,
      )
    ]
