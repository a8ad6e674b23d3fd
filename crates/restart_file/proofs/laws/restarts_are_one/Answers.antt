use Rattle.restart_file.proofs.OneFile.{restarts_are_one}
use Rattle.restart_file.proofs.laws.restarts_are_one.Goals as goal

pub returns : goal.returns
returns c = restarts_are_one
