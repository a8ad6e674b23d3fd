use Rattle.adapt_cli.proofs.Interrupting.{interrupted_as_whole}
use Rattle.adapt_cli.proofs.laws.interrupted_as_whole.Goals as goal

pub returns : goal.returns
returns c = interrupted_as_whole
