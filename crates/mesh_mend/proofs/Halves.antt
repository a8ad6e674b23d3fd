-- Halves and quarters stay in the range of what they are of, and are what a shift gives.
use Rattle.std.proofs.Common.{◌≡◌, ℕ, ◌≤◌, refl, sym, ap, ◌∙◌, subst, arith}
use Rattle.std.specs.Prelude.{ℤ, pos, negsuc, ◌+◌, ◌+ℤ◌, ◌-ℤ◌}
use Rattle.std.specs.Int.{w64}
use Rattle.std.specs.Int.Signed.{shr_z}
use Rattle.std.proofs.lemmas.Int.{to_z-of_z, ints, fits_signed_from_abs}
use mir.Val.{to_z, of_z, SFits}
use Rattle.macro_file.specs.Limits.{AtMost}
use Rattle.compat_check.specs.Points.{half}
use Rattle.mesh_names.specs.Partners.{Edge, Edge0, Edge1, Edge2}
use Rattle.mesh_mend.specs.Centres.{centre_of}
use Rattle.mesh_mend.specs.Mended.{quarter, share}

half_small : (most : ℕ) (z : ℤ) → AtMost (most + most) z → AtMost most (half z)
half_small most (pos n) h = omega (arith, h)
half_small most (negsuc n) h = omega (arith, h)

sum_small : (most : ℕ) (x y : ℤ) → AtMost most x → AtMost most y → AtMost (most + most) (x +ℤ y)
sum_small most x y hx hy = omega (arith, ints, hx, hy)

pub middle_small : (most : ℕ) (x y : ℤ) → AtMost most x → AtMost most y → AtMost most (half (x +ℤ y))
middle_small most x y hx hy = half_small most (x +ℤ y) (sum_small most x y hx hy)

pub centre_small : (most : ℕ) (x y z : ℤ) → AtMost most x → AtMost most y → AtMost most z → AtMost most (centre_of x y z)
centre_small most x y z hx hy hz = middle_small most (half (x +ℤ y)) z (middle_small most x y hx hy) hz

pub quarter_shifted : (z : ℤ) → shr_z z 4 ≡ quarter z
quarter_shifted (pos n) = refl
quarter_shifted (negsuc n) = refl

pub quarter_small : (most : ℕ) (z : ℤ) → AtMost most z → AtMost most (quarter z)
quarter_small most (pos n) h = omega (arith, h)
quarter_small most (negsuc n) h = omega (arith, h)

pub rest_small : (most : ℕ) (z : ℤ) → AtMost most z → AtMost most (z -ℤ (quarter z +ℤ quarter z))
rest_small most (pos n) h = omega (arith, ints, h)
rest_small most (negsuc n) h = omega (arith, ints, h)

stored : (x : ℤ) → AtMost 4096000000000000000 x → to_z w64 (of_z w64 x) ≡ x
stored x h = to_z-of_z w64 x (fits_signed_from_abs w64 x (omega (arith, h)))

-- a centre is in the range of its numbers
pub stored_centre : (most : ℕ) (r x y z : ℤ) → most ≤ 4096000000000000000 → AtMost most x → AtMost most y → AtMost most z → r ≡ centre_of (to_z w64 (of_z w64 x)) (to_z w64 (of_z w64 y)) (to_z w64 (of_z w64 z)) → AtMost most (to_z w64 (of_z w64 r))
stored_centre most r x y z few hx hy hz e =
    let is : r ≡ centre_of x y z = e ∙ (λ i. centre_of (stored x (omega (arith, few, hx)) i) (stored y (omega (arith, few, hy)) i) (stored z (omega (arith, few, hz)) i)) in
    let small : AtMost most r = subst (AtMost most) (sym is) (centre_small most x y z hx hy hz) in
    subst (AtMost most) (sym (stored r (omega (arith, few, small)))) small
