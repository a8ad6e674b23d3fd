use Rattle.std.proofs.Common.{arith}
use Rattle.dof_admin.proofs.HoleHeaps.{heap-count}
use Rattle.dof_admin.proofs.admin.DofAdmin.holes.Goals as goal

pub overflow_cast-result : goal.overflow_cast-result
overflow_cast-result c = omega (arith, heap-count c.self.inside.flags.items _ c.self.invariant.0)

pub returns : goal.returns
returns c = rw (← c.self.view_is) (omega (arith, heap-count c.self.inside.flags.items _ c.self.invariant.0))
