use Rattle.std.proofs.Common.{◌≡◌, ◌≤◌, ◌+◌, ◌∙◌, ℕ, ap, arith, count_by, subst, sym, take}
use Rattle.std.specs.FinSet.{from_list}
use Rattle.std.proofs.lemmas.List.{take_all}
use Rattle.std.proofs.lemmas.List.Sums.{count_by_more_no, count_by_more_yes}
use Rattle.mesh_names.specs.Names.{Name}
use Rattle.mesh_names.specs.Forests.{Has}
use Rattle.mesh_names.specs.Patches.{owns}
use Rattle.mesh_names.proofs.Sets.{In, in-has, item-in}
use Rattle.compat_check.specs.Meshes.{across_in}
use Rattle.forest_plain.proofs.Counting.{len-retain}
use Rattle.mesh_rounds.proofs.resuming.count_patches.Goals as goal
use Rattle.mesh_rounds.proofs.resuming.count_patches.Goals.{then-is_owner, else-is_owner}

pub is_owner-requires : goal.is_owner-requires
is_owner-requires c =
    let held : Has (from_list c.args.members.now) c.name-item.result = in-has c.name-item.result c.args.members.now (subst (λ (m : Name). In m c.args.members.now) (sym c.name-item.is) (item-in c.args.members.now c.loop-name.name-index c.name-item.result c.loop-name-test.true)) in
    let low = c.requires.forest.shallow c.name-item.result held in
    record { rooted = c.requires.forest.rooted c.name-item.result held; low = omega (arith, low) }

pub loop-name-preserved : goal.loop-name-preserved
loop-name-preserved c =
    let p = owns (across_in c.args.mesh.now) in
    let xs = c.args.members.now in
    let i = c.loop-name.name-index in
    let held = c.loop-name.invariant in
    let counted : c.if-is_owner.count ≡ count_by p (take (i + 1) xs) = elim c.if-is_owner.branch [
      | then-is_owner w ↦ w.count-is ∙ ap (λ (n : ℕ). n + 1) held.counted ∙ sym (count_by_more_yes p xs i c.name-item.result c.loop-name-test.true (ap p (sym c.name-item.is) ∙ sym w.if-is_owner.ensures))
      | else-is_owner w ↦ w.count-is ∙ held.counted ∙ sym (count_by_more_no p xs i c.name-item.result c.loop-name-test.true (ap p (sym c.name-item.is) ∙ sym w.if-is_owner.ensures))
    ] in
    let few : c.if-is_owner.count ≤ i + 1 = elim c.if-is_owner.branch [
      | then-is_owner w ↦ let e = w.count-is in omega (arith, e, held.few)
      | else-is_owner w ↦ let e = w.count-is in omega (arith, e, held.few)
    ] in
    record { counted = counted; few = few }

pub returns : goal.returns
returns c =
    let p = owns (across_in c.args.mesh.now) in
    c.loop-name.invariant.counted ∙ ap (count_by p) (take_all c.loop-name.name-index c.args.members.now c.loop-name-test.false) ∙ sym (len-retain p c.args.members.now c.requires.in_order)
