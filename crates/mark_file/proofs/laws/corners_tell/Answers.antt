use Rattle.mark_file.proofs.CornerLemmas.{corners_tell}
use Rattle.mark_file.proofs.laws.corners_tell.Goals as goal

pub returns : goal.returns
returns c = corners_tell
