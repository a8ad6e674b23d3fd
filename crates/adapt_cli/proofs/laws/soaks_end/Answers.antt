use Rattle.adapt_cli.proofs.SoakEnds.{soaks_end}
use Rattle.adapt_cli.proofs.laws.soaks_end.Goals as goal

pub returns : goal.returns
returns c = soaks_end
