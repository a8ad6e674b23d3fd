-- No name below an element that is not flat is flat, where midpoints are exact.
use Rattle.std.proofs.Common.{◌≡◌, ℕ, ◌<◌, ◌≤◌, Bool, true, false, ◌∙◌, List, [], ◌∷◌, length, arith}
use Rattle.std.specs.Prelude.{ℤ, pos, ◌+ℤ◌}
use Rattle.std.proofs.lemmas.Int.{ints}
use Rattle.mesh_names.specs.Triangles.{midpoint, size, triangle}
use Rattle.compat_check.specs.Faults.{doubled_area}
use Rattle.compat_check.specs.Meshes.{Mesh, shape_of}
use Rattle.compat_check.specs.Points.{AreTenths, IsHalfway, MidpointsExact, Point, point}
use Rattle.locate_point.proofs.Halves.{area-halfway, area-turned, area-twice}
use Rattle.written_meshes.specs.WrittenTexts.{NoNameIsFlat, area}

nothing : (m z q : ℤ) → m +ℤ m ≡ z +ℤ q → m ≡ pos 0 → z ≡ pos 0 → q ≡ pos 0
nothing m z q e f g = omega (arith, ints)

other_nothing : (m z q : ℤ) → m +ℤ m ≡ q +ℤ z → m ≡ pos 0 → z ≡ pos 0 → q ≡ pos 0
other_nothing m z q e f g = omega (arith, ints)

first_half : (p q r m : Point) → IsHalfway p q m → doubled_area r p m ≡ pos 0 → doubled_area p q r ≡ pos 0
first_half p q r m h e = area-turned p q r ∙ nothing (doubled_area m r p) (doubled_area p r p) (doubled_area q r p) (area-halfway p q m r p h) (area-turned m r p ∙ e) (area-turned p r p ∙ area-turned r p p ∙ area-twice p r)

second_half : (p q r m : Point) → IsHalfway p q m → doubled_area q r m ≡ pos 0 → doubled_area p q r ≡ pos 0
second_half p q r m h e = other_nothing (doubled_area m q r) (doubled_area q q r) (doubled_area p q r) (area-halfway p q m q r h) (area-turned m q r ∙ e) (area-twice q r)

module _ (exact : MidpointsExact) (mesh : Mesh) (tenths : AreTenths mesh.vertices) (thick : (r : ℕ) → r < size (shape_of mesh) → area mesh (r, []) ≡ pos 0 → ⊥) where
  abbrev Halved : ℕ → List Bool → Type 0
  Halved r w = let t = triangle (shape_of mesh) (r, w) in IsHalfway (point mesh.vertices t.0) (point mesh.vertices t.1) (point mesh.vertices (midpoint t))

  halved : (r : ℕ) (w : List Bool) → length w < 24 → Halved r w
  halved r w h = (exact mesh tenths (r, w)).midpoint h

  stays_thick : (r : ℕ) (w : List Bool) → r < size (shape_of mesh) → length w ≤ 24 → area mesh (r, w) ≡ pos 0 → ⊥
  stays_thick r [] h few e = thick r h e
  stays_thick r (false ∷ w) h few e =
      let t = triangle (shape_of mesh) (r, w) in
      stays_thick r w h (omega (arith, few)) (first_half (point mesh.vertices t.0) (point mesh.vertices t.1) (point mesh.vertices t.2) (point mesh.vertices (midpoint t)) (halved r w (omega (arith, few))) e)
  stays_thick r (true ∷ w) h few e =
      let t = triangle (shape_of mesh) (r, w) in
      stays_thick r w h (omega (arith, few)) (second_half (point mesh.vertices t.0) (point mesh.vertices t.1) (point mesh.vertices t.2) (point mesh.vertices (midpoint t)) (halved r w (omega (arith, few))) e)

pub no_name_is_flat : MidpointsExact → NoNameIsFlat
no_name_is_flat exact mesh tenths thick n h few = stays_thick exact mesh tenths thick n.0 n.1 h few
