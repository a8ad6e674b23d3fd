-- A point that a triangle contains lies in a cell of the box around it.
use Rattle.std.proofs.Common.{◌≡◌, ℕ, ◌/◌, ◌<◌, ◌≤◌, sym, subst, arith}
use Rattle.std.specs.Prelude.{ℤ, pos, negsuc, ◌-ℤ◌, ◌≤ℤ◌, min}
use Rattle.std.specs.Int.{w64}
use Rattle.std.proofs.lemmas.Int.{to_z-of_z, ints, fits_signed_from_abs}
use Rattle.std.proofs.lemmas.Nat.{le-div}
use Rattle.mesh_io.proofs.Powers.{div_low}
use Rattle.macro_file.specs.Limits.{AtMost}
use mir.Val.{to_z, of_z, SFits}
use Rattle.compat_check.specs.Points.{Point}
use Rattle.locate_point.specs.declared.axis.Axis.{Axis}
use Rattle.locate_point.specs.Covering.{Corners, Covers}
use Rattle.locate_point.specs.Grids.{IsBox, part, place}
use Rattle.locate_point.proofs.Boxing.{boxed_x, boxed_y}

part-rises : (x y : ℤ) → x ≤ℤ y → part x ≤ part y
part-rises (pos m) (pos n) h = omega (arith, ints, h)
part-rises (pos m) (negsuc n) h = absurd (omega (arith, ints, h))
part-rises (negsuc m) y h = omega arith

div-rises : (a b k : ℕ) → 0 < k → a ≤ b → a / k ≤ b / k
div-rises a b k h le = let low = div_low a k in le-div (a / k) b k h (omega (arith, low, le))

min-rises : (a b l : ℕ) → a ≤ b → min a l ≤ min b l
min-rises a b l h = omega (arith, h)

moved : (x y f : ℤ) → x ≤ℤ y → (x -ℤ f) ≤ℤ (y -ℤ f)
moved x y f h = omega (arith, ints, h)

-- the steps of an axis rise
pub place-rises : (axis : Axis) (x y : ℤ) → x ≤ℤ y → place axis x ≤ place axis y
place-rises axis x y h = min-rises (part (x -ℤ axis.from) / axis.width) (part (y -ℤ axis.from) / axis.width) axis.last (div-rises (part (x -ℤ axis.from)) (part (y -ℤ axis.from)) axis.width axis.positive (part-rises (x -ℤ axis.from) (y -ℤ axis.from) (moved x y axis.from h)))

-- what holds of all cells of the box holds of the cell of the point
pub covered_cell : (columns rows : Axis) (t : Corners) (low high p : Point) (P : ℕ → ℕ → Type 0) → IsBox t low high → Covers t p →
    ((row column : ℕ) → place rows low.1 ≤ row → row ≤ place rows high.1 → place columns low.0 ≤ column → column ≤ place columns high.0 → P row column) → P (place rows p.1) (place columns p.0)
covered_cell columns rows t low high p P box covers all =
    let x = boxed_x t p low.0 high.0 covers box.left box.right in
    let y = boxed_y t p low.1 high.1 covers box.lower box.upper in
    all (place rows p.1) (place columns p.0) (place-rises rows low.1 p.1 y.0) (place-rises rows p.1 high.1 y.1) (place-rises columns low.0 p.0 x.0) (place-rises columns p.0 high.0 x.1)

-- the box by its four bounds, as the machine hands them on
abbrev passed : ℤ → ℤ
passed z = to_z w64 (of_z w64 z)

fits : (z : ℤ) → AtMost 4096000000000000000 z → SFits w64 z
fits z h = fits_signed_from_abs w64 z (omega (arith, h))

pub box_answer : (t : Corners) (l m g h : ℤ) → (l ≤ℤ t.0.0) × (l ≤ℤ t.1.0) × (l ≤ℤ t.2.0) → (m ≤ℤ t.0.1) × (m ≤ℤ t.1.1) × (m ≤ℤ t.2.1) → (t.0.0 ≤ℤ g) × (t.1.0 ≤ℤ g) × (t.2.0 ≤ℤ g) → (t.0.1 ≤ℤ h) × (t.1.1 ≤ℤ h) × (t.2.1 ≤ℤ h) →
    AtMost 4096000000000000000 l → AtMost 4096000000000000000 m → AtMost 4096000000000000000 g → AtMost 4096000000000000000 h → IsBox t (passed l, passed m) (passed g, passed h)
box_answer t l m g h left lower right upper sl sm sg sh =
    let plain : IsBox t (l, m) (g, h) = record { left = left; right = right; lower = lower; upper = upper; within = ((sl, sm), (sg, sh)) } in
    subst (λ (q : Point × Point). IsBox t q.0 q.1) (λ i. ((sym (to_z-of_z w64 l (fits l sl)) i, sym (to_z-of_z w64 m (fits m sm)) i), (sym (to_z-of_z w64 g (fits g sg)) i, sym (to_z-of_z w64 h (fits h sh)) i))) plain

kept : (z : ℤ) → AtMost 4096000000000000000 z → passed z ≡ z
kept z h = to_z-of_z w64 z (fits z h)

pub low_kept : (r x y z : ℤ) → AtMost 4096000000000000000 x → AtMost 4096000000000000000 y → AtMost 4096000000000000000 z → (r ≤ℤ passed x) × (r ≤ℤ passed y) × (r ≤ℤ passed z) → (r ≤ℤ x) × (r ≤ℤ y) × (r ≤ℤ z)
low_kept r x y z hx hy hz b = (subst (λ u. r ≤ℤ u) (kept x hx) b.0, subst (λ u. r ≤ℤ u) (kept y hy) b.1, subst (λ u. r ≤ℤ u) (kept z hz) b.2)

pub high_kept : (r x y z : ℤ) → AtMost 4096000000000000000 x → AtMost 4096000000000000000 y → AtMost 4096000000000000000 z → (passed x ≤ℤ r) × (passed y ≤ℤ r) × (passed z ≤ℤ r) → (x ≤ℤ r) × (y ≤ℤ r) × (z ≤ℤ r)
high_kept r x y z hx hy hz b = (subst (λ u. u ≤ℤ r) (kept x hx) b.0, subst (λ u. u ≤ℤ r) (kept y hy) b.1, subst (λ u. u ≤ℤ r) (kept z hz) b.2)
