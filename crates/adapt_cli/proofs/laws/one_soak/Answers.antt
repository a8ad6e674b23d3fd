use Rattle.adapt_cli.proofs.OneSoak.{one_soak}
use Rattle.adapt_cli.proofs.laws.one_soak.Goals as goal

pub returns : goal.returns
returns c = one_soak
