-- Names that are new to a set.
use Rattle.std.specs.Prelude.{◌≡◌, false}
use Rattle.std.specs.FinSet.{contains}
use Rattle.mesh_names.specs.Names.{Name}
use Rattle.mesh_names.specs.Forests.{Names, Has}

-- none of the new names is one of the old ones
abbrev pub IsApart : Names → Names → Type 0
IsApart old fresh = (n : Name) → Has fresh n → contains old n ≡ false
