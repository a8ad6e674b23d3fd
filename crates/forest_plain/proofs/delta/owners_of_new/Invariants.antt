use Rattle.std.proofs.Common.{◌≡◌, take}
use Rattle.std.specs.Prelude.{All}
use Rattle.compat_check.specs.Meshes.{across_in, shape_of}
use Rattle.mesh_names.specs.Forests.{IsInMesh}
use Rattle.forest_plain.specs.Deltas.{new_owners}
use Rattle.forest_plain.proofs.delta.owners_of_new.Given as goal

abbrev pub invariant-loop-name : goal.invariant-loop-name
invariant-loop-name l = (l.owners.items ≡ new_owners (across_in l.mesh) l.old (take l.name-index l.names)) × All (IsInMesh (shape_of l.mesh)) l.owners.items
