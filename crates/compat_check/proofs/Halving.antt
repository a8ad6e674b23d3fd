-- The half of a sum is what a shift of the machine's numbers gives.
use Rattle.std.proofs.Common.{◌≡◌, refl, ap, ◌∙◌, arith}
use Rattle.std.specs.Prelude.{ℤ, pos, negsuc, ◌+ℤ◌}
use Rattle.std.specs.Int.{w64}
use Rattle.std.specs.Int.Signed.{shr_z}
use Rattle.std.proofs.lemmas.Int.{to_z-of_z, ints, fits_signed_from_abs}
use Rattle.macro_file.specs.Limits.{AtMost}
use mir.Val.{to_z, of_z, SFits}
use Rattle.compat_check.specs.Points.{Point, half, between}
use Rattle.compat_check.specs.Within.{IsWithin}

shifted : (z : ℤ) → shr_z z 2 ≡ half z
shifted (pos n) = refl
shifted (negsuc n) = refl

sum_small : (x y : ℤ) → AtMost 4096000000000000000 x → AtMost 4096000000000000000 y → AtMost 8192000000000000000 (x +ℤ y)
sum_small x y hx hy = omega (arith, ints, hx, hy)

half_small : (z : ℤ) → AtMost 8192000000000000000 z → AtMost 4096000000000000000 (half z)
half_small (pos n) h = omega (arith, h)
half_small (negsuc n) h = omega (arith, h)

fits_4096 : (x : ℤ) → AtMost 4096000000000000000 x → SFits w64 x
fits_4096 x h = fits_signed_from_abs w64 x (omega (arith, h))

fits_8192 : (x : ℤ) → AtMost 8192000000000000000 x → SFits w64 x
fits_8192 x h = fits_signed_from_abs w64 x (omega (arith, h))

sum_is : (x y : ℤ) → AtMost 4096000000000000000 x → AtMost 4096000000000000000 y → to_z w64 (of_z w64 (to_z w64 (of_z w64 x) +ℤ to_z w64 (of_z w64 y))) ≡ x +ℤ y
sum_is x y hx hy = (λ i. to_z w64 (of_z w64 (to_z-of_z w64 x (fits_4096 x hx) i +ℤ to_z-of_z w64 y (fits_4096 y hy) i))) ∙ to_z-of_z w64 (x +ℤ y) (fits_8192 (x +ℤ y) (sum_small x y hx hy))

half_within : (x y : ℤ) → AtMost 4096000000000000000 x → AtMost 4096000000000000000 y → AtMost 4096000000000000000 (half (x +ℤ y))
half_within x y hx hy = half_small (x +ℤ y) (sum_small x y hx hy)

pub half_is : (x y : ℤ) → AtMost 4096000000000000000 x → AtMost 4096000000000000000 y → to_z w64 (of_z w64 (shr_z (to_z w64 (of_z w64 (to_z w64 (of_z w64 x) +ℤ to_z w64 (of_z w64 y)))) 2)) ≡ half (x +ℤ y)
half_is x y hx hy = ap (λ z. to_z w64 (of_z w64 (shr_z z 2))) (sum_is x y hx hy) ∙ ap (λ z. to_z w64 (of_z w64 z)) (shifted (x +ℤ y)) ∙ to_z-of_z w64 (half (x +ℤ y)) (fits_4096 (half (x +ℤ y)) (half_within x y hx hy))

pub between_within : (p q : Point) → IsWithin p → IsWithin q → IsWithin (between p q)
between_within p q hp hq = (half_within p.0 q.0 hp.0 hq.0, half_within p.1 q.1 hp.1 hq.1)
