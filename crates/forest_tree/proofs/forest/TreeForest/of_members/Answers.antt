use Rattle.std.proofs.Common.{sym, ap, subst, ◌∙◌}
use Rattle.std.specs.FinSet.{from_list}
use Rattle.mesh_names.specs.Forests.{Has, IsInMesh, Names}
use Rattle.mesh_names.specs.Names.{Name}
use Rattle.mesh_names.specs.Patches.{patch_count}
use Rattle.compat_check.specs.Meshes.{across_in, shape_of}
use Rattle.forest_plain.specs.Rounds.{Stands}
use Rattle.forest_plain.proofs.Refining.{member_in}
use Rattle.forest_tree.proofs.Beside.{empty-union}
use Rattle.forest_tree.proofs.forest.TreeForest.of_members.Goals as goal

pub count_patches-patches-requires : goal.count_patches-patches-requires
count_patches-patches-requires c = subst (λ (s : Names). (n : Name) → Has s n → IsInMesh (shape_of c.args.mesh.now) n) (sym c.in_ok-set.ensures) (member_in (shape_of c.args.mesh.now) (from_list c.args.members.now) c.requires.forest)

pub invariant_of-result : goal.invariant_of-result
invariant_of-result c =
    let same = c.in_ok-add_all.ensures.ok ∙ empty-union c.new-held.result (from_list c.args.members.now) c.new-held.ensures in
    record {
      stands = subst (λ (s : Names). Stands (shape_of c.args.mesh.now) (across_in c.args.mesh.now) c.args.pool s) (sym same) c.requires;
      counted = c.count_patches-patches.ensures ∙ ap (patch_count (across_in c.args.mesh.now)) (c.in_ok-set.ensures ∙ sym same);
    }

pub returns-clause-members : goal.returns-clause-members
returns-clause-members c = c.in_ok-add_all.ensures.ok ∙ empty-union c.new-held.result (from_list c.args.members.now) c.new-held.ensures
