use Rattle.locate_point.proofs.place_tests.all_agree.Goals as goal

pub find-requires-clause-exact : goal.find-requires-clause-exact
find-requires-clause-exact c = c.is_exact.ensures.0 c.if-is_exact.true
