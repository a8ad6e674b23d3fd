use Rattle.written_meshes.proofs.FlatNames.{no_name_is_flat}
use Rattle.written_meshes.proofs.laws.no_name_is_flat.Goals as goal

pub returns : goal.returns
returns c = no_name_is_flat c.midpoints_exact.ensures
