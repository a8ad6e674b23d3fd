use Rattle.mesh_rounds.proofs.adaptive.AdaptiveMesh.resumed.Goals as goal

pub returns-clause-resumed : goal.returns-clause-resumed
returns-clause-resumed g c = c.in_ok-values.ensures.resumed (g.F.Forest.seen c.args.forest).members c.requires.whole

pub returns-clause-state : goal.returns-clause-state
returns-clause-state g c = c.in_ok-values.ensures.state (g.F.Forest.seen c.args.forest).members c.requires.whole
