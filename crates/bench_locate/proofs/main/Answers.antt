use Rattle.std.proofs.Common.{subst, sym}
use Rattle.locate_point.specs.Locating.{AreLeaves}
use Rattle.bench_locate.proofs.main.Goals as goal

pub look_up-requires-clause-leaves : goal.look_up-requires-clause-leaves
look_up-requires-clause-leaves c = subst (AreLeaves _) (sym c.deref-3.ensures.value) c.in_ok-leaves.ensures
