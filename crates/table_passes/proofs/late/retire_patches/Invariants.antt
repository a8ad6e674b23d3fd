use Rattle.std.proofs.Common.{◌≡◌, ◌≤◌, length, take, All}
use Rattle.std.specs.Prelude.{vec_capacity}
use Rattle.compat_check.specs.Meshes.{across_in, shape_of}
use Rattle.mesh_table.specs.Sights.{setup_at}
use Rattle.mesh_table.specs.Told.{Stays, sight}
use Rattle.patch_walk.specs.Finished.{StillKnows}
use Rattle.patch_claims.specs.Retired.{AreRetired}
use Rattle.table_passes.specs.Late.{AreGoneBut, IsRetirable}
use Rattle.table_passes.proofs.late.retire_patches.Given as goal

abbrev pub invariant-loop-patch : goal.invariant-loop-patch
invariant-loop-patch g l = record {
  stays : Stays l.fn.pass.seat l.pass.seat;
  round : l.pass.round ≡ l.fn.pass.round;
  number : l.pass.number ≡ l.fn.pass.number;
  lists : l.pass.lists ≡ l.fn.pass.lists;
  keeps : StillKnows (sight l.fn.pass.seat) (sight l.pass.seat);
  gone : AreGoneBut (setup_at l.table.site) (sight l.pass.seat) (take l.patch-index l.patches) l.left.items;
  left : All (IsRetirable (shape_of l.table.site.mesh.now) (across_in l.table.site.mesh.now) (sight l.fn.pass.seat).work.plan.retire) l.left.items;
  listed : AreRetired (sight l.pass.seat) l.retired.items;
  few : length l.retired.items ≤ l.patch-index;
  few_left : length l.left.items ≤ l.patch-index;
  capacity : vec_capacity l.retired ≡ vec_capacity l.fn.retired;
  capacity_left : vec_capacity l.left ≡ vec_capacity l.fn.left;
}
