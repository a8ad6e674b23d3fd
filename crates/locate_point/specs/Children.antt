-- Triangles and their children.
use Rattle.std.specs.Prelude.{◌↔◌, ◌⊎◌, ◌<◌, true, false, ◌∷◌, length}
use Rattle.mesh_names.specs.Names.{Name}
use Rattle.compat_check.specs.Meshes.{Mesh}
use Rattle.compat_check.specs.Points.{Point, AreTenths}
use Rattle.locate_point.specs.Covering.{IsAround}

-- the law that with exact midpoints a triangle contains a point exactly where one of its children does
abbrev pub ContainsByChildren : Type 0
ContainsByChildren = (mesh : Mesh) → AreTenths mesh.vertices → (n : Name) → length n.1 < 24 → (p : Point) → (IsAround mesh p n ↔ (IsAround mesh p (n.0, false ∷ n.1) ⊎ IsAround mesh p (n.0, true ∷ n.1)))
