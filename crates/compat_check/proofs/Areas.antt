-- Three points lie on a line where two rectangles have one area.
use Rattle.std.proofs.Common.{◌≡◌, ℕ, ◌<◌, eqb, Bool, List, sym, subst, ap, ◌∙◌, arith, eq-eqb, eqb-true, ◌≤◌, inl, inr, ⊎_elim, lit<}
use Rattle.std.specs.Prelude.{ℤ, pos, ◌-ℤ◌, ◌*ℤ◌, ◌↔◌, IsTrue, Some, slice_get}
use Rattle.std.specs.Int.{w64, w128}
use Rattle.std.proofs.lemmas.Int.{to_z-of_z, ints, fits_signed_mul, fits_signed_from_abs}
use Rattle.std.specs.Int.RustNames.{FitsSigned}
use Rattle.std.proofs.lemmas.Bool.{cases_lt}
use Rattle.macro_file.specs.Limits.{AtMost}
use mir.Val.{to_z, of_z, SFits}
use Rattle.macro_file.specs.declared.text.MacroVertex.{MacroVertex}
use Rattle.mesh_names.specs.Triangles.{Triple, corner_of}
use Rattle.compat_check.specs.Faults.{IsFlat, IsOutside, point_of, doubled_area}

same_bits : (p q : ℤ) → SFits w128 p → SFits w128 q → of_z w128 p ≡ of_z w128 q → p ≡ q
same_bits p q f g e = sym (to_z-of_z w128 p f) ∙ ap (to_z w128) e ∙ to_z-of_z w128 q g

no_difference : (p q : ℤ) → p ≡ q → p -ℤ q ≡ pos 0
no_difference p q e = omega (arith, ints)

same_from_difference : (p q : ℤ) → p -ℤ q ≡ pos 0 → p ≡ q
same_from_difference p q e = omega (arith, ints)

pub line_answer : (a b c : MacroVertex) (p q : ℤ) → SFits w128 p → SFits w128 q → p ≡ (b.x -ℤ a.x) *ℤ (c.y -ℤ a.y) → q ≡ (c.x -ℤ a.x) *ℤ (b.y -ℤ a.y) →
    (IsTrue (eqb (of_z w128 p) (of_z w128 q)) ↔ (doubled_area (a.x, a.y) (b.x, b.y) (c.x, c.y) ≡ pos 0))
line_answer a b c p q fp fq ep eq =
    let area : doubled_area (a.x, a.y) (b.x, b.y) (c.x, c.y) ≡ p -ℤ q = λ i. sym ep i -ℤ sym eq i in (
      λ h. area ∙ no_difference p q (same_bits p q fp fq (eqb-true (of_z w128 p) (of_z w128 q) h)),
      λ h. eq-eqb (of_z w128 p) (of_z w128 q) (ap (of_z w128) (same_from_difference p q (sym area ∙ h))),
    )

pub flat_answer : (vertices : List MacroVertex) (t : Triple) (a b c : MacroVertex) (flat : Bool) → slice_get vertices (corner_of t 0) ≡ Some a → slice_get vertices (corner_of t 1) ≡ Some b → slice_get vertices (corner_of t 2) ≡ Some c →
    (IsTrue flat ↔ (doubled_area (a.x, a.y) (b.x, b.y) (c.x, c.y) ≡ pos 0)) → (IsTrue flat ↔ IsFlat vertices t)
flat_answer vertices t a b c flat ha hb hc h = subst (λ (y : (ℤ × ℤ) × (ℤ × ℤ) × (ℤ × ℤ)). IsTrue flat ↔ (doubled_area y.0 y.1 y.2 ≡ pos 0)) (λ i. (point_of (sym ha i), point_of (sym hb i), point_of (sym hc i))) h

inside : (count k : ℕ) → (count ≤ k → ⊥) → k < count
inside count k h = ⊎_elim (λ x. x) (λ y. absurd (h y)) (cases_lt k count)

pub corners_inside : (count : ℕ) (t : Triple) → (IsOutside count t → ⊥) → (corner_of t 0 < count) × (corner_of t 1 < count) × (corner_of t 2 < count)
corners_inside count t h = (inside count (corner_of t 0) (λ y. h (inl y)), inside count (corner_of t 1) (λ y. h (inr (inl y))), inside count (corner_of t 2) (λ y. h (inr (inr y))))

pub rectangle_fits : (a b : ℤ) → AtMost 8192000000000000000 a → AtMost 8192000000000000000 b → FitsSigned w128 (a *ℤ b)
rectangle_fits a b ha hb = fits_signed_mul w128 a b 8192000000000000000 8192000000000000000 ha hb (lit< tt)

pub rectangle_is : (s t x y : ℤ) → SFits w128 s → SFits w128 t → s ≡ x → t ≡ y → FitsSigned w128 (s *ℤ t) → to_z w128 (of_z w128 (to_z w128 (of_z w128 s) *ℤ to_z w128 (of_z w128 t))) ≡ x *ℤ y
rectangle_is s t x y fs ft es et f = (λ i. to_z w128 (of_z w128 (to_z-of_z w128 s fs i *ℤ to_z-of_z w128 t ft i))) ∙ to_z-of_z w128 (s *ℤ t) f ∙ (λ i. es i *ℤ et i)

fits_by_size : (x : ℤ) → AtMost 4096000000000000000 x → SFits w64 x
fits_by_size x h = fits_signed_from_abs w64 x (omega (arith, h))

pub way_is : (r x y : ℤ) → AtMost 4096000000000000000 x → AtMost 4096000000000000000 y → r ≡ to_z w64 (of_z w64 y) -ℤ to_z w64 (of_z w64 x) → r ≡ y -ℤ x
way_is r x y hx hy e = e ∙ (λ i. to_z-of_z w64 y (fits_by_size y hy) i -ℤ to_z-of_z w64 x (fits_by_size x hx) i)
