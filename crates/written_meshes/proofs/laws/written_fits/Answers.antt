use Rattle.written_meshes.proofs.WrittenFits.{written_fits}
use Rattle.written_meshes.proofs.laws.written_fits.Goals as goal

pub returns : goal.returns
returns c = written_fits
