use Rattle.mesh_mend.proofs.CutTexts.{mended_passes}
use Rattle.mesh_mend.proofs.laws.mended_passes.Goals as goal

pub returns : goal.returns
returns c = mended_passes
