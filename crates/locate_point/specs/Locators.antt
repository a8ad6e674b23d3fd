-- A locator: a grid of the names in which points are looked up.
use Rattle.std.specs.Prelude.{◌≡◌, Bool, true, false, List}
use Rattle.mesh_names.specs.Names.{Name}
use Rattle.mesh_names.specs.Triangles.{size}
use Rattle.mesh_names.specs.Leaves.{tops}
use Rattle.compat_check.specs.Meshes.{Mesh, shape_of}
use Rattle.compat_check.specs.Points.{AreTenths}
use Rattle.locate_point.specs.declared.locator.Locator.{Locator}
use Rattle.locate_point.specs.Grids.{IsGrid}
use Rattle.locate_point.specs.Locating.{AreLeaves}

-- the macro elements where coordinates are exact, and else the leaves
abbrev pub names_of : Bool → Mesh → List Name → List Name
names_of true mesh leaves = tops (size (shape_of mesh))
names_of false mesh leaves = leaves

-- a locator of these leaves of a forest over this mesh: its grid has the macro elements where coordinates are exact, and else the leaves
pub record IsLocator (mesh : Mesh) (leaves : List Name) (locator : Locator) : Type 0 where
  pub of_mesh : locator.mesh.now ≡ mesh
  pub of_leaves : locator.leaves.now ≡ leaves
  pub leaves_are : AreLeaves locator.mesh.now locator.leaves.now
  pub tenths : locator.exact ≡ true → AreTenths locator.mesh.now.vertices
  pub grid : IsGrid locator.mesh.now locator.columns locator.rows (names_of locator.exact locator.mesh.now locator.leaves.now) locator.entries.items
