use Rattle.adapt_cli.proofs.OneRun.{one_run}
use Rattle.adapt_cli.proofs.laws.one_run.Goals as goal

pub returns : goal.returns
returns c = one_run
