use Rattle.std.proofs.Common.{◌≡◌}
use Rattle.compat_check.specs.Meshes.{across_in, shape_of}
use Rattle.forest_plain.specs.Deltas.{patches_below}
use Rattle.forest_plain.proofs.delta.by_level.Given as goal

abbrev pub invariant-loop-level : goal.invariant-loop-level
invariant-loop-level l = l.patches.items ≡ patches_below (shape_of l.mesh) (across_in l.mesh) l.level l.owners
