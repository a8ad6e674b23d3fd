-- The signs of doubled areas, and what the machine's numbers tell of them.
use Rattle.std.proofs.Common.{◌≡◌, Bool, true, false, not, refl, sym, ◌∙◌, arith, subst, inl, inr, ⊎_elim}
use Rattle.std.proofs.lemmas.Bool.{false≢true}
use Rattle.std.proofs.Math.Bool.{beq}
use Rattle.std.specs.Prelude.{ℤ, pos, ◌+ℤ◌, ◌-ℤ◌, ◌*ℤ◌, ◌↔◌, IsTrue}
use Rattle.std.specs.Int.{w128}
use Rattle.std.specs.Int.RustNames.{FitsSigned}
use Rattle.std.proofs.lemmas.Int.{to_z-of_z, ints, fits_signed_from_abs, by_lt_z}
use Rattle.std.specs.Int.Signed.{clash_ℤ}
use Rattle.macro_file.specs.Limits.{AtMost}
use mir.Val.{to_z, of_z, SFits}
use Rattle.compat_check.specs.Faults.{doubled_area}
use Rattle.compat_check.specs.Points.{Point}
use Rattle.locate_point.specs.Covering.{Corners, Covers, NoneAbove, NoneBelow, areas, doubled}
use Rattle.locate_point.proofs.Halves.{areas-sum}
use Rattle.locate_point.proofs.Products.{product_small}

pub rectangle_small : (s t : ℤ) → SFits w128 s → SFits w128 t → AtMost 8192000000000000000 s → AtMost 8192000000000000000 t → FitsSigned w128 (s *ℤ t) →
    AtMost 67108864000000000000000000000000000000 (to_z w128 (of_z w128 (to_z w128 (of_z w128 s) *ℤ to_z w128 (of_z w128 t))))
rectangle_small s t fs ft hs ht f =
    subst (AtMost 67108864000000000000000000000000000000) (sym ((λ i. to_z w128 (of_z w128 (to_z-of_z w128 s fs i *ℤ to_z-of_z w128 t ft i))) ∙ to_z-of_z w128 (s *ℤ t) f)) (product_small s t 8192000000000000000 8192000000000000000 hs ht)

-- a difference of two rectangles
difference_small : (p q : ℤ) → AtMost 67108864000000000000000000000000000000 p → AtMost 67108864000000000000000000000000000000 q → SFits w128 (p -ℤ q)
difference_small p q hp hq = fits_signed_from_abs w128 (p -ℤ q) (omega (arith, ints, hp, hq))

pub area_answer : (a b c : Point) (p q : ℤ) → SFits w128 p → SFits w128 q → p ≡ (b.0 -ℤ a.0) *ℤ (c.1 -ℤ a.1) → q ≡ (c.0 -ℤ a.0) *ℤ (b.1 -ℤ a.1) → AtMost 67108864000000000000000000000000000000 p → AtMost 67108864000000000000000000000000000000 q →
    to_z w128 (of_z w128 (to_z w128 (of_z w128 p) -ℤ to_z w128 (of_z w128 q))) ≡ doubled_area a b c
area_answer a b c p q fp fq ep eq hp hq = (λ i. to_z w128 (of_z w128 (to_z-of_z w128 p fp i -ℤ to_z-of_z w128 q fq i))) ∙ to_z-of_z w128 (p -ℤ q) (difference_small p q hp hq) ∙ (λ i. ep i -ℤ eq i)

-- three numbers of which none is below and none above 0 are all 0
all_zero : (a b c d : ℤ) → (a +ℤ b) +ℤ c ≡ d → NoneBelow (a, b, c) → NoneAbove (a, b, c) → d ≡ pos 0
all_zero a b c d e h k = omega (arith, ints, e, h.0, h.1, h.2, k.0, k.1, k.2)

-- where none is above 0 and the sum is 0, none is below
none_below : (a b c d : ℤ) → (a +ℤ b) +ℤ c ≡ d → NoneAbove (a, b, c) → d ≡ pos 0 → NoneBelow (a, b, c)
none_below a b c d e k z = (omega (arith, ints, e, k.0, k.1, k.2, z), omega (arith, ints, e, k.0, k.1, k.2, z), omega (arith, ints, e, k.0, k.1, k.2, z))

none_above : (a b c d : ℤ) → (a +ℤ b) +ℤ c ≡ d → NoneBelow (a, b, c) → d ≡ pos 0 → NoneAbove (a, b, c)
none_above a b c d e k z = (omega (arith, ints, e, k.0, k.1, k.2, z), omega (arith, ints, e, k.0, k.1, k.2, z), omega (arith, ints, e, k.0, k.1, k.2, z))

-- the point is contained where the areas have one sign and are not all 0
module _ (t : Corners) (p : Point) where
  apart : doubled t ≡ pos 0 → NoneAbove (areas t p) → NoneBelow (areas t p)
  apart e k = none_below (areas t p).0 (areas t p).1 (areas t p).2 (doubled t) (areas-sum t.0 t.1 t.2 p) k e

  near : doubled t ≡ pos 0 → NoneBelow (areas t p) → NoneAbove (areas t p)
  near e k = none_above (areas t p).0 (areas t p).1 (areas t p).2 (doubled t) (areas-sum t.0 t.1 t.2 p) k e

  flat : NoneBelow (areas t p) → NoneAbove (areas t p) → doubled t ≡ pos 0
  flat h k = all_zero (areas t p).0 (areas t p).1 (areas t p).2 (doubled t) (areas-sum t.0 t.1 t.2 p) h k

  signs : (right left : Bool) → ((right ≡ true → ⊥) → NoneBelow (areas t p)) → (right ≡ true → NoneBelow (areas t p) → ⊥) → ((left ≡ true → ⊥) → NoneAbove (areas t p)) → (left ≡ true → NoneAbove (areas t p) → ⊥) → (IsTrue (not (beq right left)) ↔ Covers t p)
  signs false false below outer above other = (λ e. absurd (false≢true e), λ k. absurd (k.thick (flat (below false≢true) (above false≢true))))
  signs false true below outer above other = (λ e. record { thick = λ z. other refl (near z (below false≢true)); within = inl (below false≢true) }, λ k. refl)
  signs true false below outer above other = (λ e. record { thick = λ z. outer refl (apart z (above false≢true)); within = inr (above false≢true) }, λ k. refl)
  signs true true below outer above other = (λ e. absurd (false≢true e), λ k. absurd (⊎_elim (outer refl) (other refl) k.within))

-- what cannot fail holds
stable_below : (x y z : ℤ) → ((NoneBelow (x, y, z) → ⊥) → ⊥) → NoneBelow (x, y, z)
stable_below x y z h = by_lt_z x (pos 0) (λ l. absurd (h (λ k. clash_ℤ l k.0)))
    (λ a. by_lt_z y (pos 0) (λ l. absurd (h (λ k. clash_ℤ l k.1))) (λ b. by_lt_z z (pos 0) (λ l. absurd (h (λ k. clash_ℤ l k.2))) (λ c. (a, b, c))))

stable_above : (x y z : ℤ) → ((NoneAbove (x, y, z) → ⊥) → ⊥) → NoneAbove (x, y, z)
stable_above x y z h = by_lt_z (pos 0) x (λ l. absurd (h (λ k. clash_ℤ l k.0)))
    (λ a. by_lt_z (pos 0) y (λ l. absurd (h (λ k. clash_ℤ l k.1))) (λ b. by_lt_z (pos 0) z (λ l. absurd (h (λ k. clash_ℤ l k.2))) (λ c. (a, b, c))))

-- a number as the machine hands it on
abbrev passed : ℤ → ℤ
passed z = to_z w128 (of_z w128 z)

all_passed : (a b c x y z : ℤ) → SFits w128 a → SFits w128 b → SFits w128 c → a ≡ x → b ≡ y → c ≡ z → (P : ℤ × ℤ × ℤ → Type 0) → P (passed a, passed b, passed c) ≡ P (x, y, z)
all_passed a b c x y z fa fb fc ea eb ec P = λ i. P ((to_z-of_z w128 a fa ∙ ea) i, (to_z-of_z w128 b fb ∙ eb) i, (to_z-of_z w128 c fc ∙ ec) i)

pub around : (t : Corners) (p : Point) (a b c : ℤ) (right left : Bool) → SFits w128 a → SFits w128 b → SFits w128 c → a ≡ (areas t p).0 → b ≡ (areas t p).1 → c ≡ (areas t p).2 →
    ((IsTrue right → NoneBelow (passed a, passed b, passed c) → ⊥) × ((NoneBelow (passed a, passed b, passed c) → ⊥) → IsTrue right)) →
    ((IsTrue left → NoneAbove (passed a, passed b, passed c) → ⊥) × ((NoneAbove (passed a, passed b, passed c) → ⊥) → IsTrue left)) → (IsTrue (not (beq right left)) ↔ Covers t p)
around t p a b c right left fa fb fc ea eb ec hr hl =
    let below = all_passed a b c (areas t p).0 (areas t p).1 (areas t p).2 fa fb fc ea eb ec NoneBelow in
    let above = all_passed a b c (areas t p).0 (areas t p).1 (areas t p).2 fa fb fc ea eb ec NoneAbove in
    let r = subst (λ (B : Type 0). (IsTrue right → B → ⊥) × ((B → ⊥) → IsTrue right)) below hr in
    let l = subst (λ (B : Type 0). (IsTrue left → B → ⊥) × ((B → ⊥) → IsTrue left)) above hl in
    signs t p right left (λ h. stable_below (areas t p).0 (areas t p).1 (areas t p).2 (λ k. h (r.1 k))) r.0 (λ h. stable_above (areas t p).0 (areas t p).1 (areas t p).2 (λ k. h (l.1 k))) l.0
