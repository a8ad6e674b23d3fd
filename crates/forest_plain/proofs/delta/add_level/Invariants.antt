use Rattle.std.proofs.Common.{◌≡◌, ◌++◌, take}
use Rattle.compat_check.specs.Meshes.{across_in, shape_of}
use Rattle.forest_plain.specs.Deltas.{patches_at}
use Rattle.forest_plain.proofs.delta.add_level.Given as goal

abbrev pub invariant-loop-owner : goal.invariant-loop-owner
invariant-loop-owner l = l.patches.items ≡ l.fn.patches.items ++ patches_at (shape_of l.mesh) (across_in l.mesh) l.level (take l.owner-index l.owners)
