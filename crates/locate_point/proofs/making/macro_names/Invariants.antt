use Rattle.std.proofs.Common.{◌≡◌}
use Rattle.mesh_names.specs.Leaves.{tops}
use Rattle.locate_point.proofs.making.macro_names.Given as goal

abbrev pub invariant-loop-root : goal.invariant-loop-root
invariant-loop-root l = l.names.items ≡ tops l.root
