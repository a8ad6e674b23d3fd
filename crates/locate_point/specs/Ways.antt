-- The way down from a macro triangle to the least leaf around a point.
use Rattle.std.specs.Prelude.{◌⊎◌, Bool, true, false, List}
use Rattle.std.specs.List.{Contains}
use Rattle.mesh_names.specs.Names.{Name}
use Rattle.mesh_names.specs.Forests.{Names, Has, IsLeaf}
use Rattle.compat_check.specs.Meshes.{Mesh, shape_of}
use Rattle.compat_check.specs.Points.{Point, between}
use Rattle.locate_point.specs.Covering.{Corners, IsAround}
use Rattle.locate_point.specs.Locating.{AreLeavesOf, IsAtMost}

-- where the corners of child 0 and child 1 lie
abbrev pub child_corners : Corners → Bool → Corners
child_corners t false = (t.2, t.0, between t.0 t.1)
child_corners t true = (t.1, t.2, between t.0 t.1)

-- an element: a member of the forest or a leaf
abbrev pub IsElement : Mesh → Names → Name → Type 0
IsElement mesh members n = Has members n ⊎ IsLeaf (shape_of mesh) members n

-- the name is an element around the point, and no leaf around the point comes before it
pub record IsOnWay (mesh : Mesh) (list : List Name) (p : Point) (n : Name) : Type 0 where
  pub around : IsAround mesh p n
  pub element : (members : Names) → AreLeavesOf mesh members list → IsElement mesh members n
  pub least : (m : Name) → Contains list m → IsAround mesh p m → IsAtMost n m
