use Rattle.restart_file.proofs.OneFile.{parts_are_one}
use Rattle.restart_file.proofs.laws.parts_are_one.Goals as goal

pub returns : goal.returns
returns c = parts_are_one
