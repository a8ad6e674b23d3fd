use Rattle.std.proofs.Common.{arith}
use Rattle.adapt_cli.proofs.ResumeOutcomes.{can_go_on}
use Rattle.adapt_cli.proofs.resuming.go_on.Goals as goal

pub make_rounds-requires-clause-can : goal.make_rounds-requires-clause-can
make_rounds-requires-clause-can g c _ _ = can_go_on c.args.mesh.now c.args.members.now c.args.resume.now.pool c.count_patches-needed.result c.args.rounds.now (omega (arith, c.if-rounds-gt-ROUNDS.false)) c.count_patches-needed.ensures (omega (arith, c.if-needed-resume.false))
