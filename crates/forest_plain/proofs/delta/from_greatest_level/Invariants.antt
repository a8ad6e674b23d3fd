use Rattle.std.proofs.Common.{◌≡◌, ◌-◌, ◌++◌}
use Rattle.compat_check.specs.Meshes.{across_in, shape_of}
use Rattle.forest_plain.specs.Deltas.{patches_down}
use Rattle.forest_plain.proofs.delta.from_greatest_level.Given as goal

abbrev pub invariant-loop-above : goal.invariant-loop-above
invariant-loop-above l = l.patches.items ++ patches_down (shape_of l.mesh) (across_in l.mesh) (24 - l.above) l.owners ≡ patches_down (shape_of l.mesh) (across_in l.mesh) 24 l.owners
