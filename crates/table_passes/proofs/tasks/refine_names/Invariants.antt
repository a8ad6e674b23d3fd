use Rattle.std.proofs.Common.{◌≡◌, length, take}
use Rattle.std.specs.Prelude.{vec_capacity}
use Rattle.compat_check.specs.Meshes.{across_in, shape_of}
use Rattle.mesh_table.specs.Lost.{AllLiving}
use Rattle.mesh_table.specs.Told.{Stays, sight}
use Rattle.patch_walk.specs.Works.{Works}
use Rattle.table_passes.specs.Answers.{NoneFull, Ran}
use Rattle.table_passes.specs.Kept.{HasKept}
use Rattle.table_passes.proofs.tasks.refine_names.Given as goal

abbrev pub invariant-loop-name : goal.invariant-loop-name
invariant-loop-name g l = record {
  stays : Stays l.fn.pass.seat l.pass.seat;
  round : l.pass.round ≡ l.fn.pass.round;
  number : l.pass.number ≡ l.fn.pass.number;
  works : Works (sight l.fn.pass.seat) (sight l.pass.seat);
  living : AllLiving (sight l.pass.seat).claims;
  count : length l.answers.items ≡ l.name-index;
  ran : Ran (shape_of l.table.site.mesh.now) (across_in l.table.site.mesh.now) (sight l.fn.pass.seat) (take l.name-index l.names) l.answers.items (sight l.pass.seat);
  capacity : vec_capacity l.answers ≡ vec_capacity l.fn.answers;
  kept : HasKept l.table.site l.pass;
  none : NoneFull l.answers.items;
  list : vec_capacity l.pass.lists.published ≡ vec_capacity l.fn.pass.lists.published;
}
