-- Where the corners of names lie.
use Rattle.std.proofs.Common.{◌≡◌, List, Bool, true, false, cond, refl, sym, arith, zero-le, subst}
use Rattle.std.specs.Prelude.{ℤ, ◌+ℤ◌, Option, Some, None, slice_get}
use Rattle.std.proofs.lemmas.Int.{ints}
use Rattle.macro_file.specs.declared.text.MacroVertex.{MacroVertex}
use Rattle.mesh_names.specs.Names.{Name}
use Rattle.mesh_names.specs.Triangles.{Vertex, Corner, Mid, before, middle, triangle}
use Rattle.compat_check.specs.Faults.{point_of}
use Rattle.compat_check.specs.Meshes.{Mesh, shape_of}
use Rattle.compat_check.specs.Points.{Point, half, between, point, points, MidpointsExact}
use Rattle.compat_check.specs.Within.{IsWithin, corner}
use Rattle.compat_check.proofs.Halving.{between_within}
use Rattle.locate_point.specs.Covering.{AreWithin, corners_of}
use Rattle.locate_point.specs.Children.{ContainsByChildren}
use Rattle.locate_point.proofs.Splitting.{split_down, split_up}

plus_turned : (x y : ℤ) → x +ℤ y ≡ y +ℤ x
plus_turned x y = omega (arith, ints)

between_turned : (p q : Point) → between p q ≡ between q p
between_turned p q = λ i. (half (plus_turned p.0 q.0 i), half (plus_turned p.1 q.1 i))

-- the middle of an unordered pair lies between its two
pub middle_lies : (mesh : Mesh) (a b : Vertex) → point mesh.vertices (middle a b) ≡ between (point mesh.vertices a) (point mesh.vertices b)
middle_lies mesh a b = by_order (before b a)
  where
    by_order : (o : Bool) → point mesh.vertices (cond o (Mid b a) (Mid a b)) ≡ between (point mesh.vertices a) (point mesh.vertices b)
    by_order true = between_turned (point mesh.vertices b) (point mesh.vertices a)
    by_order false = refl

told_within : (told : Option MacroVertex) → IsWithin (point_of told)
told_within None = (zero-le, zero-le)
told_within (Some v) = (v.in_range.0, v.in_range.1)

pub point_within : (mesh : Mesh) (v : Vertex) → IsWithin (point mesh.vertices v)
point_within mesh (Corner i) = told_within (slice_get mesh.vertices i)
point_within mesh (Mid a b) = between_within (point mesh.vertices a) (point mesh.vertices b) (point_within mesh a) (point_within mesh b)

-- no corner of a name lies outside of the range
pub corners_within : (mesh : Mesh) (n : Name) → AreWithin (corners_of mesh n)
corners_within mesh n = let t = triangle (shape_of mesh) n in (point_within mesh t.0, point_within mesh t.1, point_within mesh t.2)

-- the law
pub by_children : MidpointsExact → ContainsByChildren
by_children exact mesh tenths n short p =
    let t = triangle (shape_of mesh) n in
    let h = (exact mesh tenths n).midpoint short in (
      split_down (point mesh.vertices t.0) (point mesh.vertices t.1) (point mesh.vertices t.2) (point mesh.vertices (middle t.0 t.1)) p h,
      split_up (point mesh.vertices t.0) (point mesh.vertices t.1) (point mesh.vertices t.2) (point mesh.vertices (middle t.0 t.1)) p h,
    )

pub points_within : (mesh : Mesh) (n : Name) (ps : List Point) → ps ≡ points mesh n → AreWithin (corner ps 0, corner ps 1, corner ps 2)
points_within mesh n ps e = subst (λ (qs : List Point). AreWithin (corner qs 0, corner qs 1, corner qs 2)) (sym e) (corners_within mesh n)
