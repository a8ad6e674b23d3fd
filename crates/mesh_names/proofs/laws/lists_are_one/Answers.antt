use Rattle.mesh_names.proofs.Lists.{lists_are_one}
use Rattle.mesh_names.proofs.laws.lists_are_one.Goals as goal

pub returns : goal.returns
returns c = lists_are_one
