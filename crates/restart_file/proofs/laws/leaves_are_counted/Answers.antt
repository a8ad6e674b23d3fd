use Rattle.restart_file.proofs.LeafCounting.{leaves_are_counted}
use Rattle.restart_file.proofs.laws.leaves_are_counted.Goals as goal

pub returns : goal.returns
returns c = leaves_are_counted
