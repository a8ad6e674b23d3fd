-- A triangle that is cut at the exact middle of its refinement edge contains a point exactly where one of its halves does.
use Rattle.std.proofs.Common.{◌≡◌, sym, ◌∙◌, arith, inl, inr, ⊎_elim}
use Rattle.std.specs.Prelude.{ℤ, pos, ◌+ℤ◌, ◌-ℤ◌, ◌⊎◌}
use Rattle.std.proofs.lemmas.Int.{ints, by_lt_z}
use Rattle.compat_check.specs.Faults.{doubled_area}
use Rattle.compat_check.specs.Points.{Point, IsHalfway}
use Rattle.locate_point.specs.Covering.{Covers, NoneAbove, NoneBelow}
use Rattle.locate_point.proofs.Halves.{area-halfway, area-mirrored, area-turned, area-twice}

-- the areas of a triangle with a point, and those of its two halves: `left` and `apart` are new in child 0, `right` and `other` in child 1
record AreHalves (alpha beta gamma whole left apart right other first second : ℤ) : Type 0 where
  left_is : left +ℤ left ≡ gamma
  right_is : right +ℤ right ≡ gamma
  apart_is : apart +ℤ apart ≡ alpha -ℤ beta
  turned : apart +ℤ other ≡ pos 0
  first_is : first +ℤ first ≡ whole
  second_is : second +ℤ second ≡ whole

module _ (alpha beta gamma whole left apart right other first second : ℤ) (h : AreHalves alpha beta gamma whole left apart right other first second) where
  thick_first : (whole ≡ pos 0 → ⊥) → first ≡ pos 0 → ⊥
  thick_first t e = t (omega (arith, ints, h.first_is, e))

  thick_second : (whole ≡ pos 0 → ⊥) → second ≡ pos 0 → ⊥
  thick_second t e = t (omega (arith, ints, h.second_is, e))

  thick_by_first : (first ≡ pos 0 → ⊥) → whole ≡ pos 0 → ⊥
  thick_by_first t e = t (omega (arith, ints, h.first_is, e))

  thick_by_second : (second ≡ pos 0 → ⊥) → whole ≡ pos 0 → ⊥
  thick_by_second t e = t (omega (arith, ints, h.second_is, e))

  -- to the children
  down_below : NoneBelow (alpha, beta, gamma) → NoneBelow (left, apart, beta) ⊎ NoneBelow (other, right, alpha)
  down_below (a, b, c) = by_lt_z apart (pos 0)
      (λ k. inr (omega (arith, ints, h.turned, k), omega (arith, ints, h.right_is, c), a))
      (λ k. inl (omega (arith, ints, h.left_is, c), k, b))

  down_above : NoneAbove (alpha, beta, gamma) → NoneAbove (left, apart, beta) ⊎ NoneAbove (other, right, alpha)
  down_above (a, b, c) = by_lt_z (pos 0) apart
      (λ k. inr (omega (arith, ints, h.turned, k), omega (arith, ints, h.right_is, c), a))
      (λ k. inl (omega (arith, ints, h.left_is, c), k, b))

  -- from child 0
  up_below : NoneBelow (left, apart, beta) → NoneBelow (alpha, beta, gamma)
  up_below (a, b, c) = (omega (arith, ints, h.apart_is, b, c), c, omega (arith, ints, h.left_is, a))

  up_above : NoneAbove (left, apart, beta) → NoneAbove (alpha, beta, gamma)
  up_above (a, b, c) = (omega (arith, ints, h.apart_is, b, c), c, omega (arith, ints, h.left_is, a))

  -- from child 1
  over_below : NoneBelow (other, right, alpha) → NoneBelow (alpha, beta, gamma)
  over_below (a, b, c) = (c, omega (arith, ints, h.apart_is, h.turned, a, c), omega (arith, ints, h.right_is, b))

  over_above : NoneAbove (other, right, alpha) → NoneAbove (alpha, beta, gamma)
  over_above (a, b, c) = (c, omega (arith, ints, h.apart_is, h.turned, a, c), omega (arith, ints, h.right_is, b))

zero_and : (x y z : ℤ) → x +ℤ x ≡ y +ℤ z → y ≡ pos 0 → x +ℤ x ≡ z
zero_and x y z e f = omega (arith, ints, e, f)

and_zero : (x y z : ℤ) → x +ℤ x ≡ y +ℤ z → z ≡ pos 0 → x +ℤ x ≡ y
and_zero x y z e f = omega (arith, ints, e, f)

less : (x y z w : ℤ) → x +ℤ x ≡ y +ℤ z → y +ℤ w ≡ pos 0 → x +ℤ x ≡ z -ℤ w
less x y z w e f = omega (arith, ints, e, f)

are_halves : (a b c m p : Point) → IsHalfway a b m →
    AreHalves (doubled_area b c p) (doubled_area c a p) (doubled_area a b p) (doubled_area a b c) (doubled_area a m p) (doubled_area m c p) (doubled_area m b p) (doubled_area c m p) (doubled_area c a m) (doubled_area b c m)
are_halves a b c m p h = record {
  left_is = (λ i. area-turned a m p i +ℤ area-turned a m p i) ∙ zero_and (doubled_area m p a) (doubled_area a p a) (doubled_area b p a) (area-halfway a b m p a h) (sym (area-turned a a p) ∙ area-twice a p) ∙ area-turned b p a ∙ area-turned p a b;
  right_is = and_zero (doubled_area m b p) (doubled_area a b p) (doubled_area b b p) (area-halfway a b m b p h) (area-twice b p);
  apart_is = less (doubled_area m c p) (doubled_area a c p) (doubled_area b c p) (doubled_area c a p) (area-halfway a b m c p h) (area-mirrored a c p);
  turned = area-mirrored m c p;
  first_is = (λ i. (area-turned c a m ∙ area-turned a m c) i +ℤ (area-turned c a m ∙ area-turned a m c) i) ∙ zero_and (doubled_area m c a) (doubled_area a c a) (doubled_area b c a) (area-halfway a b m c a h) (sym (area-turned a a c) ∙ area-twice a c) ∙ sym (area-turned a b c);
  second_is = (λ i. (area-turned b c m ∙ area-turned c m b) i +ℤ (area-turned b c m ∙ area-turned c m b) i) ∙ and_zero (doubled_area m b c) (doubled_area a b c) (doubled_area b b c) (area-halfway a b m b c h) (area-twice b c);
}

pub split_down : (a b c m p : Point) → IsHalfway a b m → Covers (a, b, c) p → Covers (c, a, m) p ⊎ Covers (b, c, m) p
split_down a b c m p e k =
    let h = are_halves a b c m p e in
    let first : NoneBelow _ ⊎ NoneAbove _ → Covers (c, a, m) p = λ w. record { thick = thick_first _ _ _ _ _ _ _ _ _ _ h k.thick; within = w } in
    let second : NoneBelow _ ⊎ NoneAbove _ → Covers (b, c, m) p = λ w. record { thick = thick_second _ _ _ _ _ _ _ _ _ _ h k.thick; within = w } in
    ⊎_elim (λ w. ⊎_elim (λ x. inl (first (inl x))) (λ x. inr (second (inl x))) (down_below _ _ _ _ _ _ _ _ _ _ h w))
    (λ w. ⊎_elim (λ x. inl (first (inr x))) (λ x. inr (second (inr x))) (down_above _ _ _ _ _ _ _ _ _ _ h w))
    k.within

pub split_up : (a b c m p : Point) → IsHalfway a b m → Covers (c, a, m) p ⊎ Covers (b, c, m) p → Covers (a, b, c) p
split_up a b c m p e k =
    let h = are_halves a b c m p e in
    ⊎_elim
    (λ (x : Covers (c, a, m) p). record { thick = thick_by_first _ _ _ _ _ _ _ _ _ _ h x.thick; within = ⊎_elim (λ w. inl (up_below _ _ _ _ _ _ _ _ _ _ h w)) (λ w. inr (up_above _ _ _ _ _ _ _ _ _ _ h w)) x.within })
    (λ (x : Covers (b, c, m) p). record { thick = thick_by_second _ _ _ _ _ _ _ _ _ _ h x.thick; within = ⊎_elim (λ w. inl (over_below _ _ _ _ _ _ _ _ _ _ h w)) (λ w. inr (over_above _ _ _ _ _ _ _ _ _ _ h w)) x.within })
    k
