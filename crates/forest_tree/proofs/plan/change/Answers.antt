use Rattle.std.proofs.Common.{◌≡◌, ◌∙◌, List, sym, subst, ap, arith}
use Rattle.std.specs.FinSet.{difference, from_list, union}
use Rattle.mesh_names.specs.Names.{Name}
use Rattle.mesh_names.specs.Forests.{IsListOf, Names}
use Rattle.mesh_names.specs.Coarsening.{IsCoarsened}
use Rattle.mesh_names.specs.Patches.{patch_count}
use Rattle.mesh_names.proofs.Sets.{union-right}
use Rattle.compat_check.specs.Meshes.{across_in, shape_of}
use Rattle.forest_plain.specs.Deltas.{AreDied, new_owners, patches_below, patches_down}
use Rattle.forest_tree.proofs.Beside.{listed-in-mesh}
use Rattle.forest_tree.proofs.ListedSets.{count-difference}
use Rattle.forest_tree.proofs.NewDeltas.{born-new, died-lost}
use Rattle.forest_tree.proofs.plan.change.Goals as goal

pub born_patches-requires : goal.born_patches-requires
born_patches-requires c =
    let all = union c.args.members.now c.args.refinement.fresh in
    listed-in-mesh (shape_of c.args.mesh.now) all c.args.refinement.fresh c.deref.result.now c.requires.forest (λ n h. union-right c.args.members.now c.args.refinement.fresh n h) (subst (λ (l : List Name). IsListOf c.args.refinement.fresh l) (sym c.deref.ensures.value) c.in_ok-names.ensures)

pub died_patches-requires : goal.died_patches-requires
died_patches-requires c =
    listed-in-mesh (shape_of c.args.mesh.now) (union c.args.members.now c.args.refinement.fresh) c.in_ok-gone.gone c.deref-2.result.now c.requires.forest c.in_ok-gone.ensures.within (subst (λ (l : List Name). IsListOf c.in_ok-gone.gone l) (sym c.deref-2.ensures.value) c.in_ok-lost.ensures)

pub overflow_cast-result : goal.overflow_cast-result
overflow_cast-result c =
    let fewer = count-difference (across_in c.args.mesh.now) (union c.args.members.now c.args.refinement.fresh) c.in_ok-gone.gone c.in_ok-gone.ensures.within in
    omega (arith, fewer, c.count_patches.ensures, c.requires.counted, c.ranges.patches.fits)

pub overflow_sub-result : goal.overflow_sub-result
overflow_sub-result c =
    let fewer = count-difference (across_in c.args.mesh.now) (union c.args.members.now c.args.refinement.fresh) c.in_ok-gone.gone c.in_ok-gone.ensures.within in
    omega (arith, fewer, c.count_patches.ensures, c.requires.counted)

pub returns : goal.returns
returns c =
    let mesh = shape_of c.args.mesh.now in
    let sides = across_in c.args.mesh.now in
    let old = c.args.members.now in
    let fresh = c.args.refinement.fresh in
    let all = union old fresh in
    let gone = c.in_ok-gone.gone in
    let same : difference all gone ≡ difference (union old (from_list c.in_ok-names.names.items)) (from_list c.in_ok-lost.lost.items) = (λ i. difference (union old (sym c.in_ok-names.ensures.all i)) (sym c.in_ok-lost.ensures.all i)) in
    let fewer = count-difference sides all gone c.in_ok-gone.ensures.within in
    let counts = ap (patch_count sides) same in
    record {
      coarsened = λ first r. subst (λ (s : Names). IsCoarsened sides first s) same (c.in_ok-gone.ensures.coarsened first r);
      born = born-new sides mesh old fresh c.deref.result.now c.in_ok-born.born.items c.requires.apart (subst (λ (l : List Name). IsListOf fresh l) (sym c.deref.ensures.value) c.in_ok-names.ensures)
          (c.in_ok-born.ensures ∙ ap (λ (s : Names). patches_below mesh sides 24 (new_owners sides s c.deref.result.now)) c.new-nothing.ensures);
      died = subst (λ (s : Names). AreDied mesh sides all s c.in_ok-died.died.items) same
          (died-lost sides mesh all gone c.deref-2.result.now c.in_ok-died.died.items c.in_ok-gone.ensures.within (subst (λ (l : List Name). IsListOf gone l) (sym c.deref-2.ensures.value) c.in_ok-lost.ensures)
          (c.in_ok-died.ensures ∙ ap (λ (s : Names). patches_down mesh sides 24 (new_owners sides s c.deref-2.result.now)) c.new-nothing.ensures));
      counted = omega (arith, fewer, counts, c.count_patches.ensures, c.requires.counted);
    }
