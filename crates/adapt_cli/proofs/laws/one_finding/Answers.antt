use Rattle.adapt_cli.proofs.OneFind.{one_finding}
use Rattle.adapt_cli.proofs.laws.one_finding.Goals as goal

pub returns : goal.returns
returns c = one_finding
