use Rattle.std.proofs.Common.{sym, subst}
use Rattle.locate_point.specs.Locating.{AreLeaves}
use Rattle.locate_point.proofs.place_tests.all_answer.Goals as goal

pub all_agree-requires-clause-leaves : goal.all_agree-requires-clause-leaves
all_agree-requires-clause-leaves c = subst (λ list. AreLeaves c.args.mesh.now list) (sym c.deref.ensures.value) c.in_ok-leaves.ensures
