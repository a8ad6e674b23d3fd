use Rattle.std.proofs.Common.{refl, arith}
use Rattle.std.specs.FinSet.{union}
use Rattle.mesh_names.specs.Coarsening.{marked_by}
use Rattle.mesh_names.specs.Patches.{patch_count}
use Rattle.mesh_names.proofs.Sets.{union-right}
use Rattle.compat_check.specs.Meshes.{across_in, shape_of}
use Rattle.forest_plain.proofs.Readiness.{reached_first}
use Rattle.forest_plain.proofs.Refining.{member_in}
use Rattle.forest_tree.specs.Refinement.{refined_by}
use Rattle.forest_tree.proofs.ListedSets.{count-union}
use Rattle.forest_tree.proofs.plan.plan_round.Goals as goal

pub count_patches-requires : goal.count_patches-requires
count_patches-requires c = λ n h. member_in (shape_of c.args.mesh.now) (union c.args.members.now c.in_ok-refinement.refinement.fresh) c.in_ok-refinement.ensures.ready.refined.least.forest n (union-right c.args.members.now c.in_ok-refinement.refinement.fresh n h)

pub returns-then-needed-pool-clause-refused : goal.returns-then-needed-pool-clause-refused
returns-then-needed-pool-clause-refused c =
    let sum = count-union (across_in c.args.mesh.now) c.args.members.now c.in_ok-refinement.refinement.fresh c.in_ok-refinement.ensures.apart in (
      patch_count (across_in c.args.mesh.now) (union c.args.members.now c.in_ok-refinement.refinement.fresh),
      record {
        fine = c.in_default.ensures.ok;
        refined = union c.args.members.now c.in_ok-refinement.refinement.fresh;
        is_refined = c.in_ok-refinement.ensures.ready.refined;
        count = refl;
      },
      omega (arith, sum, c.saturating_add-needed.ensures, c.count_patches.ensures, c.requires.counted, c.if-needed-pool.true),
      omega (arith, sum, c.saturating_add-needed.ensures, c.count_patches.ensures, c.requires.counted, c.min.ensures),
      refl,
      refl,
    )

pub change-requires-clause-counted : goal.change-requires-clause-counted
change-requires-clause-counted c =
    let sum = count-union (across_in c.args.mesh.now) c.args.members.now c.in_ok-refinement.refinement.fresh c.in_ok-refinement.ensures.apart in
    let most = c.requires.stands.most in
    omega (arith, sum, c.saturating_add-needed.ensures, c.count_patches.ensures, c.requires.counted, c.if-needed-pool.false, most)

pub returns-clause-ok : goal.returns-clause-ok
returns-clause-ok c =
    let shape = shape_of c.args.mesh.now in
    let sides = across_in c.args.mesh.now in
    let old = c.args.members.now in
    let rows = c.args.rows.now in
    let refinement = c.in_ok-refinement.refinement in
    let ready = c.in_ok-refinement.ensures.ready in
    let sum = count-union sides old refinement.fresh c.in_ok-refinement.ensures.apart in
    let most = c.requires.stands.most in
    record {
      round = record {
        round = record {
          fine = c.in_default.ensures.ok;
          refined = union old refinement.fresh;
          is_refined = ready.refined;
          fits = omega (arith, sum, c.saturating_add-needed.ensures, c.count_patches.ensures, c.requires.counted, c.if-needed-pool.false, most);
          coarsened = c.in_ok-change.ensures.coarsened (marked_by shape old rows (union old refinement.fresh)) (reached_first shape sides c.element_count-checked.ensures.tells old rows (refined_by old refinement) ready);
        };
        born = c.in_ok-change.ensures.born;
        died = c.in_ok-change.ensures.died;
      };
      counted = c.in_ok-change.ensures.counted;
    }
