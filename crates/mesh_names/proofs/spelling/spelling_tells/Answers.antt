use Rattle.mesh_names.proofs.SpelledNames.{spelling_tells}
use Rattle.mesh_names.proofs.spelling.spelling_tells.Goals as goal

pub returns : goal.returns
returns c = spelling_tells
