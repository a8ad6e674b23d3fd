use Rattle.mesh_names.proofs.SpelledNames.{spelling_is_one}
use Rattle.mesh_names.proofs.spelling.spelling_is_one.Goals as goal

pub returns : goal.returns
returns c = spelling_is_one
