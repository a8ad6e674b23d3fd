-- The areas of the two halves of a triangle that is cut at the exact middle of its refinement edge.
use Rattle.std.proofs.Common.{◌≡◌, sym, ap, ◌∙◌, arith}
use Rattle.std.specs.Prelude.{ℤ, pos, ◌+ℤ◌}
use Rattle.std.proofs.lemmas.Int.{ints}
use Rattle.compat_check.specs.Faults.{doubled_area}
use Rattle.compat_check.specs.Points.{Point, IsHalfway}
use Rattle.locate_point.proofs.Crosses.{cross, cross-turned, area_is, cross-halfway}

-- the three areas of a point make up that of the triangle
pub areas-sum : (a b c p : Point) → (doubled_area b c p +ℤ doubled_area c a p) +ℤ doubled_area a b p ≡ doubled_area a b c
areas-sum a b c p =
    (λ i. (area_is b c p i +ℤ area_is c a p i) +ℤ area_is a b p i) ∙ left (cross a b) (cross b c) (cross c a) (cross a p) (cross p a) (cross b p) (cross p b) (cross c p) (cross p c) (cross-turned a p) (cross-turned b p) (cross-turned c p) ∙ sym (area_is a b c)
  where
    left : (ab bc ca ap pa bp pb cp pc : ℤ) → ap +ℤ pa ≡ pos 0 → bp +ℤ pb ≡ pos 0 → cp +ℤ pc ≡ pos 0 → (((bc +ℤ cp) +ℤ pb) +ℤ ((ca +ℤ ap) +ℤ pc)) +ℤ ((ab +ℤ bp) +ℤ pa) ≡ (ab +ℤ bc) +ℤ ca
    left ab bc ca ap pa bp pb cp pc e f g = omega (arith, ints)

-- an area with a corner halfway between two is half of the sum
pub area-halfway : (a b m p q : Point) → IsHalfway a b m → doubled_area m p q +ℤ doubled_area m p q ≡ doubled_area a p q +ℤ doubled_area b p q
area-halfway a b m p q h =
    (λ i. area_is m p q i +ℤ area_is m p q i) ∙
    halved (cross m p) (cross p q) (cross q m) (cross m q) (cross a p) (cross q a) (cross a q) (cross b p) (cross q b) (cross b q) (cross-halfway a b m p h) (cross-halfway a b m q h) (cross-turned m q) (cross-turned a q) (cross-turned b q) ∙
    (λ i. sym (area_is a p q) i +ℤ sym (area_is b p q) i)
  where
    halved : (mp pq qm mq ap qa aq bp qb bq : ℤ) → mp +ℤ mp ≡ ap +ℤ bp → mq +ℤ mq ≡ aq +ℤ bq → mq +ℤ qm ≡ pos 0 → aq +ℤ qa ≡ pos 0 → bq +ℤ qb ≡ pos 0 →
        ((mp +ℤ pq) +ℤ qm) +ℤ ((mp +ℤ pq) +ℤ qm) ≡ ((ap +ℤ pq) +ℤ qa) +ℤ ((bp +ℤ pq) +ℤ qb)
    halved mp pq qm mq ap qa aq bp qb bq e f g h k = omega (arith, ints)

-- turned round by one corner, a triangle keeps its area
pub area-turned : (a b c : Point) → doubled_area a b c ≡ doubled_area b c a
area-turned a b c = area_is a b c ∙ moved (cross a b) (cross b c) (cross c a) ∙ sym (area_is b c a)
  where
    moved : (x y z : ℤ) → (x +ℤ y) +ℤ z ≡ (y +ℤ z) +ℤ x
    moved x y z = omega (arith, ints)

-- mirrored, it has the area with the other sign
pub area-mirrored : (a b c : Point) → doubled_area a b c +ℤ doubled_area b a c ≡ pos 0
area-mirrored a b c = (λ i. area_is a b c i +ℤ area_is b a c i) ∙ nothing (cross a b) (cross b c) (cross c a) (cross b a) (cross a c) (cross c b) (cross-turned a b) (cross-turned b c) (cross-turned c a)
  where
    nothing : (ab bc ca ba ac cb : ℤ) → ab +ℤ ba ≡ pos 0 → bc +ℤ cb ≡ pos 0 → ca +ℤ ac ≡ pos 0 → ((ab +ℤ bc) +ℤ ca) +ℤ ((ba +ℤ ac) +ℤ cb) ≡ pos 0
    nothing ab bc ca ba ac cb e f g = omega (arith, ints)

-- two corners in one place
pub area-twice : (a c : Point) → doubled_area a a c ≡ pos 0
area-twice a c = nothing (doubled_area a a c) (area-mirrored a a c)
  where
    nothing : (z : ℤ) → z +ℤ z ≡ pos 0 → z ≡ pos 0
    nothing z e = omega (arith, ints)
