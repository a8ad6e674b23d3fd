-- The doubled area of a triangle as a sum of three cross products of its corners.
use Rattle.std.proofs.Common.{◌≡◌, sym, ap, ◌∙◌, arith}
use Rattle.std.specs.Prelude.{ℤ, pos, ◌+ℤ◌, ◌-ℤ◌, ◌*ℤ◌}
use Rattle.std.proofs.lemmas.Int.{ints}
use Rattle.compat_check.specs.Faults.{doubled_area}
use Rattle.compat_check.specs.Points.{Point, IsHalfway}
use Rattle.locate_point.proofs.Products.{sum-times, times-sum, differences-times}

-- the cross product of two points, as ways from the origin
unfoldable pub cross : Point → Point → ℤ
cross u v = (u.0 *ℤ v.1) -ℤ (v.0 *ℤ u.1)

pub cross-turned : (u v : Point) → cross u v +ℤ cross v u ≡ pos 0
unfolding cross
cross-turned u v = nothing (u.0 *ℤ v.1) (v.0 *ℤ u.1)
  where
    nothing : (x y : ℤ) → (x -ℤ y) +ℤ (y -ℤ x) ≡ pos 0
    nothing x y = omega (arith, ints)

-- a doubled area is a sum of cross products
pub area_is : (a b c : Point) → doubled_area a b c ≡ (cross a b +ℤ cross b c) +ℤ cross c a
unfolding cross
area_is a b c = (λ i. differences-times b.0 a.0 c.1 a.1 i -ℤ differences-times c.0 a.0 b.1 a.1 i) ∙
    ordered (b.0 *ℤ c.1) (b.0 *ℤ a.1) (a.0 *ℤ c.1) (a.0 *ℤ a.1) (c.0 *ℤ b.1) (c.0 *ℤ a.1) (a.0 *ℤ b.1)
  where
    ordered : (bc ba ac aa cb ca ab : ℤ) → ((bc -ℤ ba) -ℤ (ac -ℤ aa)) -ℤ ((cb -ℤ ca) -ℤ (ab -ℤ aa)) ≡ ((ab -ℤ ba) +ℤ (bc -ℤ cb)) +ℤ (ca -ℤ ac)
    ordered bc ba ac aa cb ca ab = omega (arith, ints)

-- the cross product with a point halfway between two
pub cross-halfway : (a b m v : Point) → IsHalfway a b m → cross m v +ℤ cross m v ≡ cross a v +ℤ cross b v
unfolding cross
cross-halfway a b m v h =
    let x : (m.0 *ℤ v.1) +ℤ (m.0 *ℤ v.1) ≡ (a.0 *ℤ v.1) +ℤ (b.0 *ℤ v.1) = sym (sum-times m.0 m.0 v.1) ∙ ap (λ z. z *ℤ v.1) h.0 ∙ sum-times a.0 b.0 v.1 in
    let y : (v.0 *ℤ m.1) +ℤ (v.0 *ℤ m.1) ≡ (v.0 *ℤ a.1) +ℤ (v.0 *ℤ b.1) = sym (times-sum v.0 m.1 m.1) ∙ ap (λ z. v.0 *ℤ z) h.1 ∙ times-sum v.0 a.1 b.1 in
    joined (m.0 *ℤ v.1) (v.0 *ℤ m.1) (a.0 *ℤ v.1) (v.0 *ℤ a.1) (b.0 *ℤ v.1) (v.0 *ℤ b.1) x y
  where
    joined : (p q r s t u : ℤ) → p +ℤ p ≡ r +ℤ t → q +ℤ q ≡ s +ℤ u → (p -ℤ q) +ℤ (p -ℤ q) ≡ (r -ℤ s) +ℤ (t -ℤ u)
    joined p q r s t u e f = omega (arith, ints)
