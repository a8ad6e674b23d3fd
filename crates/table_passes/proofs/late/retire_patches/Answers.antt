use Rattle.std.proofs.Common.{◌≡◌, ◌≤◌, ◌+◌, ◌<◌, ℕ, List, [], take, get_or, refl, sym, ap, ◌∙◌, subst, arith, All, reverse, length}
use Rattle.std.proofs.lemmas.List.{take_more, take_all}
use Rattle.std.proofs.lemmas.List.Elements.{All-nil}
use Rattle.compat_check.specs.Meshes.{across_in, shape_of}
use Rattle.mesh_names.specs.declared.patch.PatchName.{PatchName}
use Rattle.table_words.specs.Views.{Plan}
use Rattle.mesh_table.specs.Sights.{setup_at}
use Rattle.mesh_table.specs.Told.{sight}
use Rattle.patch_claims.proofs.Leaving.{still_more}
use Rattle.table_passes.specs.Late.{AreGoneBut, IsGoneOrLeft, IsRetirable}
use Rattle.table_passes.proofs.Leaving.{can_retire_still, gone_more, gone_none, left_all, left_count, still_same}
use Rattle.table_passes.proofs.late.retire_patches.Goals as goal

pub retire_or_leave-requires-clause-can : goal.retire_or_leave-requires-clause-can
retire_or_leave-requires-clause-can g c = can_retire_still (setup_at c.args.table.now.site) (sight c.args.pass.now.seat) (sight c.loop-patch.pass.seat) c.requires.can c.loop-patch.invariant.keeps

pub retire_or_leave-requires-clause-aimed : goal.retire_or_leave-requires-clause-aimed
retire_or_leave-requires-clause-aimed g c =
    let mesh = shape_of c.args.table.now.site.mesh.now in
    let x = across_in c.args.table.now.site.mesh.now in
    let p = c.patch-item.result in
    subst (λ (q : PatchName). IsRetirable mesh x (sight c.loop-patch.pass.seat).work.plan.retire q) (sym c.patch-item.is)
    (subst (λ (q : Plan). IsRetirable mesh x q.retire (get_or c.args.patches.now c.loop-patch.patch-index p)) (sym c.loop-patch.invariant.keeps.plan) (c.requires.patches c.loop-patch.patch-index p c.loop-patch-test.true))

pub loop-patch-init : goal.loop-patch-init
loop-patch-init g c =
    let v = sight c.args.pass.now.seat in
    let few : length c.args.retired.now.items ≡ 0 = ap length c.requires.empty.0 in
    let few_left : length c.args.left.now.items ≡ 0 = ap length c.requires.empty.1 in
    let retirable = IsRetirable (shape_of c.args.table.now.site.mesh.now) (across_in c.args.table.now.site.mesh.now) v.work.plan.retire in
    record {
      stays = (refl, refl, refl);
      round = refl;
      number = refl;
      lists = refl;
      keeps = still_same v;
      gone = gone_none (setup_at c.args.table.now.site) v c.args.patches.now c.args.left.now.items;
      left = subst (All retirable) (sym c.requires.empty.1) (All-nil retirable);
      listed = c.requires.none ∙ ap reverse (sym c.requires.empty.0);
      few = omega arith;
      few_left = omega arith;
      capacity = refl;
      capacity_left = refl;
    }

pub loop-patch-preserved : goal.loop-patch-preserved
loop-patch-preserved g c =
    let old = c.loop-patch.invariant in
    let step = c.retire_or_leave.ensures in
    let s = setup_at c.args.table.now.site in
    let v = sight c.loop-patch.pass.seat in
    let w = sight c.retire_or_leave.new.pass.seat in
    let i = c.loop-patch.patch-index in
    let ps = c.args.patches.now in
    let p = c.patch-item.result in
    let before = c.loop-patch.left.items in
    let after = c.retire_or_leave.new.left.items in
    let within = c.loop-patch-test.true in
    let few = old.few in
    let count = step.count in
    let one : IsGoneOrLeft s w before after (get_or ps i p) = subst (IsGoneOrLeft s w before after) c.patch-item.is step.gone in
    record {
      stays = (step.stays.0 ∙ old.stays.0, step.stays.1 ∙ old.stays.1, step.stays.2 ∙ old.stays.2);
      round = step.round ∙ old.round;
      number = step.number ∙ old.number;
      lists = step.lists ∙ old.lists;
      keeps = still_more old.keeps step.keeps;
      gone = gone_more s w before after (get_or ps i p) v (take i ps) (take (i + 1) ps) (take_more ps i p within) step.keeps.open_ old.gone one;
      left = left_all s w before after (get_or ps i p) (IsRetirable (shape_of c.args.table.now.site.mesh.now) (across_in c.args.table.now.site.mesh.now) (sight c.args.pass.now.seat).work.plan.retire) one (c.requires.patches i p within) old.left;
      listed = step.listed;
      few = omega arith;
      few_left = left_count s w before after (get_or ps i p) i one old.few_left;
      capacity = step.capacity.0 ∙ old.capacity;
      capacity_left = step.capacity.1 ∙ old.capacity_left;
    }

pub returns-clause-worked : goal.returns-clause-worked
returns-clause-worked g c =
    let old = c.loop-patch.invariant in
    let s = setup_at c.args.table.now.site in
    record {
      keeps = old.keeps;
      gone = subst (λ (ps : List PatchName). AreGoneBut s (sight c.loop-patch.pass.seat) ps c.loop-patch.left.items) (take_all c.loop-patch.patch-index c.args.patches.now c.loop-patch-test.false) old.gone;
      left = old.left;
      blocks = old.listed;
      few = (let e = old.few in let f : c.loop-patch.patch-index ≤ length c.args.patches.now = omega arith in omega arith);
    }
