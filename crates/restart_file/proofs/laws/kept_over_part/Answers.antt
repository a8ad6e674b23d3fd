use Rattle.restart_file.proofs.OneFile.{kept_over_part}
use Rattle.restart_file.proofs.laws.kept_over_part.Goals as goal

pub returns : goal.returns
returns c = kept_over_part
