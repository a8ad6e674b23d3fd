use Rattle.adapt_cli.proofs.SoakEnds.{faults_are_full_pools}
use Rattle.adapt_cli.proofs.laws.faults_are_full_pools.Goals as goal

pub returns : goal.returns
returns c = faults_are_full_pools
