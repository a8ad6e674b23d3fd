use Rattle.compat_check.specs.Meshes.{across_in}
use Rattle.forest_plain.proofs.Counting.{Left}
use Rattle.forest_plain.proofs.delta.count_patches.Given as goal

abbrev pub invariant-loop-name : goal.invariant-loop-name
invariant-loop-name l = Left (across_in l.mesh) l.members l.count l.name-iterator
