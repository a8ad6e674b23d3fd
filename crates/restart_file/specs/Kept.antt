-- The members of a forest that a restart file keeps, as a list in order.
use Rattle.std.specs.Prelude.{ℕ, ◌<◌, List}
use Rattle.std.specs.FinSet.{from_list}
use Rattle.std.specs.List.Sorted.{IsStrictlySortedBy}
use Rattle.mesh_names.specs.Names.{Name, name_cmp}
use Rattle.mesh_names.specs.Triangles.{Shape}
use Rattle.mesh_names.specs.Forests.{Names, Has, IsForest, Conforms}

-- the set of the names of a list
abbrev pub set_of : List Name → Names
set_of list = from_list list

-- the members of a conforming forest over the mesh, in order
pub record IsKept (mesh : Shape) (members : List Name) : Type 0 where
  pub in_order : IsStrictlySortedBy name_cmp members
  pub forest : IsForest mesh (set_of members)
  pub conforms : Conforms mesh (set_of members)

-- the names are of later macro elements
abbrev pub ArePast : ℕ → List Name → Type 0
ArePast root names = (n : Name) → Has (set_of names) n → root < n.0
