-- The least leaf that contains a point.
use Rattle.std.specs.Prelude.{◌≡◌, ℕ, ◌<◌, List, [], Option, Some, None}
use Rattle.std.specs.List.{Contains}
use Rattle.std.specs.declared.cmp.Ordering.TheVariants.{Greater}
use Rattle.mesh_names.specs.Names.{Name, name_cmp}
use Rattle.mesh_names.specs.Triangles.{size}
use Rattle.mesh_names.specs.Forests.{Names, IsForest, IsListOf}
use Rattle.mesh_names.specs.Leaves.{leaves}
use Rattle.compat_check.specs.Meshes.{Mesh, shape_of}
use Rattle.compat_check.specs.Points.{Point}
use Rattle.locate_point.specs.Covering.{IsAround}

-- the list has the leaves of this forest in order
pub record AreLeavesOf (mesh : Mesh) (members : Names) (list : List Name) : Type 0 where
  pub forest : IsForest (shape_of mesh) members
  pub listed : IsListOf (leaves (shape_of mesh) members) list

-- the list has the leaves of some forest over the mesh, in order
abbrev pub AreLeaves : Mesh → List Name → Type 0
AreLeaves mesh list = (members : Names) × AreLeavesOf mesh members list

-- one name is another, or comes before it
abbrev pub IsAtMost : Name → Name → Type 0
IsAtMost n m = name_cmp n m ≡ Greater → ⊥

-- the place of a point: the least of these names whose triangle contains the point; none exactly where no triangle of theirs does
abbrev pub IsPlace : Mesh → List Name → Point → Option Name → Type 0
IsPlace mesh names p None = (n : Name) → Contains names n → IsAround mesh p n → ⊥
IsPlace mesh names p (Some n) = Contains names n × IsAround mesh p n × ((m : Name) → Contains names m → IsAround mesh p m → IsAtMost n m)

-- the point lies in no triangle of the macro mesh
abbrev pub LiesOutside : Mesh → Point → Type 0
LiesOutside mesh p = (r : ℕ) → r < size (shape_of mesh) → IsAround mesh p (r, []) → ⊥

-- the law that a point has one place
abbrev pub PlacesAreOne : Type 0
PlacesAreOne = (mesh : Mesh) (names : List Name) (p : Point) (a b : Option Name) → IsPlace mesh names p a → IsPlace mesh names p b → a ≡ b
