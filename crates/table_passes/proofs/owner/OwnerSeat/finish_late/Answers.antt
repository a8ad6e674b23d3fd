use Rattle.std.proofs.Common.{◌∙◌, ap, subst, sym, All}
use Rattle.compat_check.specs.Meshes.{across_in, shape_of}
use Rattle.table_words.specs.Views.{Plan}
use Rattle.mesh_table.specs.Crews.{left_lone}
use Rattle.mesh_table.specs.Passes.{joined}
use Rattle.mesh_table.specs.Sights.{Sight, setup_at}
use Rattle.mesh_table.specs.Told.{sight}
use Rattle.table_passes.specs.Joining.{HasTaken}
use Rattle.table_passes.specs.Late.{AreGoneBut, CanSplitLate, IsRetirable}
use Rattle.table_passes.proofs.Taking.{joined_can, joined_gone, taken_one}
use Rattle.table_passes.proofs.owner.OwnerSeat.finish_late.Goals as goal

pub retire_patches-requires-clause-none : goal.retire_patches-requires-clause-none
retire_patches-requires-clause-none g c = ap (λ (v : Sight). v.work.retired) c.split_late-pass.ensures.made

pub retire_patches-requires-clause-patches : goal.retire_patches-requires-clause-patches
retire_patches-requires-clause-patches g c = subst (λ (v : Sight). All (IsRetirable (shape_of c.args.table.now.site.mesh.now) (across_in c.args.table.now.site.mesh.now) v.work.plan.retire) c.args.patches.now) (sym c.split_late-pass.ensures.made) c.requires.patches

pub join-requires-clause-works : goal.join-requires-clause-works
join-requires-clause-works g c = c.retire_patches.ensures.worked.keeps.kind ∙ c.split_late-pass.ensures.can.works.0

pub returns-clause-still : goal.returns-clause-still
returns-clause-still g c = subst (CanSplitLate (setup_at c.args.table.now.site)) (sym c.join.ensures.joined) (joined_can (setup_at c.args.table.now.site) (sight c.split_late-pass.new.self.seat) (sight c.retire_patches.new.pass.seat) c.split_late-pass.ensures.still)

pub returns-clause-gone : goal.returns-clause-gone
returns-clause-gone g c = subst (λ (v : Sight). AreGoneBut (setup_at c.args.table.now.site) v c.args.patches.now c.retire_patches.new.left.items) (sym c.join.ensures.joined)
    (joined_gone (setup_at c.args.table.now.site) (sight c.split_late-pass.new.self.seat) (sight c.retire_patches.new.pass.seat) c.args.patches.now c.retire_patches.new.left.items c.retire_patches.ensures.worked.gone)

pub returns-clause-taken : goal.returns-clause-taken
returns-clause-taken g c =
    let v = sight c.args.self.now.seat in
    let w = sight c.retire_patches.new.pass.seat in
    subst (λ (x : Sight). HasTaken v x c.retire_patches.new.retired.items) (sym (c.join.ensures.joined ∙ ap (λ (u : Sight). joined u w) c.split_late-pass.ensures.left))
    (taken_one v (sight c.split_late-pass.result.seat) w 0 v.ruling.lone c.retire_patches.new.retired.items c.split_late-pass.ensures.made c.retire_patches.ensures.worked.keeps c.retire_patches.ensures.worked.blocks)

pub returns-clause-left : goal.returns-clause-left
returns-clause-left g c = subst (λ (v : Sight). All (IsRetirable (shape_of c.args.table.now.site.mesh.now) (across_in c.args.table.now.site.mesh.now) v.work.plan.retire) c.retire_patches.new.left.items) c.split_late-pass.ensures.made c.retire_patches.ensures.worked.left
