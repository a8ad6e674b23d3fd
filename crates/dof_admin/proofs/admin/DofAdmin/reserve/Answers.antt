use Rattle.std.proofs.Common.{arith}
use Rattle.dof_admin.proofs.HoleHeaps.{heap-count}
use Rattle.dof_admin.proofs.admin.DofAdmin.reserve.Goals as goal

pub overflow_sub-size : goal.overflow_sub-size
overflow_sub-size c = omega (arith, heap-count c.self.inside.flags.items _ c.self.invariant.0)
