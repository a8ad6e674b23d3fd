use Rattle.adapt_cli.proofs.Loading.{marks_formed}
use Rattle.adapt_cli.proofs.load.marked_rounds.Goals as goal

pub returns-in-Ok-clause-formed : goal.returns-in-Ok-clause-formed
returns-in-Ok-clause-formed c = marks_formed c.in-Ok.rounds.items c.in-Ok.ensures.formed
