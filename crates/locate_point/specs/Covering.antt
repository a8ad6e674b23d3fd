-- The points that a triangle contains.
use Rattle.std.specs.Prelude.{◌≡◌, ◌⊎◌, ◌≤ℤ◌, ℤ, pos}
use Rattle.mesh_names.specs.Names.{Name}
use Rattle.mesh_names.specs.Triangles.{triangle}
use Rattle.compat_check.specs.Faults.{doubled_area}
use Rattle.compat_check.specs.Meshes.{Mesh, shape_of}
use Rattle.compat_check.specs.Points.{Point, point}
use Rattle.compat_check.specs.Within.{IsWithin}

-- where the three corners of a triangle lie
abbrev pub Corners : Type 0
Corners = Point × Point × Point

-- twice the area of a triangle, below 0 where its corners go round to the right
abbrev pub doubled : Corners → ℤ
doubled t = doubled_area t.0 t.1 t.2

-- the doubled areas of a point with the edges 0, 1 and 2; edge i lies opposite corner i
abbrev pub areas : Corners → Point → ℤ × ℤ × ℤ
areas t p = (doubled_area t.1 t.2 p, doubled_area t.2 t.0 p, doubled_area t.0 t.1 p)

-- none of the three is below 0
abbrev pub NoneBelow : ℤ × ℤ × ℤ → Type 0
NoneBelow a = (pos 0 ≤ℤ a.0) × (pos 0 ≤ℤ a.1) × (pos 0 ≤ℤ a.2)

-- none of the three is above 0
abbrev pub NoneAbove : ℤ × ℤ × ℤ → Type 0
NoneAbove a = (a.0 ≤ℤ pos 0) × (a.1 ≤ℤ pos 0) × (a.2 ≤ℤ pos 0)

-- the triangle contains the point: it is not flat, and the point lies on no edge's outer side; a point on an edge is contained
pub record Covers (t : Corners) (p : Point) : Type 0 where
  pub thick : doubled t ≡ pos 0 → ⊥
  pub within : NoneBelow (areas t p) ⊎ NoneAbove (areas t p)

-- where the corners of a name lie
abbrev pub corners_of : Mesh → Name → Corners
corners_of mesh n = let t = triangle (shape_of mesh) n in (point mesh.vertices t.0, point mesh.vertices t.1, point mesh.vertices t.2)

-- the triangle of the name contains the point
abbrev pub IsAround : Mesh → Point → Name → Type 0
IsAround mesh p n = Covers (corners_of mesh n) p

-- no corner lies outside of the range of the coordinates
abbrev pub AreWithin : Corners → Type 0
AreWithin t = IsWithin t.0 × IsWithin t.1 × IsWithin t.2
