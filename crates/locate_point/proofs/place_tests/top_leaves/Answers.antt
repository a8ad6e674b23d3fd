use Rattle.std.proofs.Common.{sym, subst}
use Rattle.locate_point.specs.Locating.{AreLeaves}
use Rattle.locate_point.proofs.TopLeaves.{tops_are_leaves}
use Rattle.locate_point.proofs.place_tests.top_leaves.Goals as goal

pub returns : goal.returns
returns c = subst (λ list. AreLeaves c.args.mesh.now list) (sym c.in_ok-names.ensures) (tops_are_leaves c.args.mesh.now)
