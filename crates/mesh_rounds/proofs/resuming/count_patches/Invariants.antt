use Rattle.std.proofs.Common.{◌≡◌, ◌≤◌, count_by, take}
use Rattle.compat_check.specs.Meshes.{across_in}
use Rattle.mesh_names.specs.Patches.{owns}
use Rattle.mesh_rounds.proofs.resuming.count_patches.Given as goal

abbrev pub invariant-loop-name : goal.invariant-loop-name
invariant-loop-name l = record {
  counted : l.count ≡ count_by (owns (across_in l.mesh)) (take l.name-index l.members);
  few : l.count ≤ l.name-index;
}
