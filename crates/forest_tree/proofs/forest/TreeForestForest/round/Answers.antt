use Rattle.std.proofs.Common.{◌≡◌, ◌∙◌, List, sym, ap, subst, arith}
use Rattle.std.specs.FinSet.{difference, from_list, union}
use Rattle.mesh_names.specs.Names.{Name, name_cmp}
use Rattle.mesh_names.specs.Forests.{Names}
use Rattle.mesh_names.specs.Patches.{patch_count}
use Rattle.compat_check.specs.Meshes.{across_in, shape_of}
use Rattle.forest_plain.specs.Rounds.{Stands}
use Rattle.forest_plain.proofs.Readiness.{coarsened_stands}
use Rattle.forest_tree.specs.Plans.{planned}
use Rattle.forest_tree.proofs.forest.TreeForestForest.round.Goals as goal

pub invariant_of-self-2 : goal.invariant_of-self-2
invariant_of-self-2 c =
    let shape = shape_of c.args.self.now.mesh.now in
    let sides = across_in c.args.self.now.mesh.now in
    let old = c.args.self.now.members in
    let plan = c.in_ok-plan.plan in
    let told = c.in_ok-plan.ensures.ok in
    let step = told.round.round in
    let same : c.remove_all.new.self ≡ planned old plan =
    c.remove_all.ensures
    ∙ (λ i. difference (c.in_ok-add_all.ensures.ok i) (from_list {R = name_cmp} (c.deref-3.ensures.value i)))
    ∙ ap (λ (l : List Name). difference (union old (from_list l)) (from_list plan.gone.items)) c.deref-2.ensures.value in
    record {
      stands = subst (λ (s : Names). Stands shape sides c.args.self.now.pool s) (sym same) (coarsened_stands shape sides c.element_count-checked.ensures.tells old _ c.args.self.now.pool c.args.self.now.stands step.refined (planned old plan) step.is_refined (omega (arith, step.fits)) step.coarsened);
      counted = told.counted ∙ ap (patch_count sides) (sym same);
    }
