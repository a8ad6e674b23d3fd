use Rattle.std.proofs.Common.{take, All}
use Rattle.compat_check.specs.Meshes.{shape_of}
use Rattle.mesh_table.specs.Crews.{CanBisect}
use Rattle.table_passes.proofs.owner.can_bisect.Given as goal

abbrev pub invariant-loop-name : goal.invariant-loop-name
invariant-loop-name l = All (CanBisect (shape_of l.mesh)) (take l.name-index l.names)
