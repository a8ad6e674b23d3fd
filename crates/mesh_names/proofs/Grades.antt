-- A mesh has at most one list of grades.
use Rattle.std.proofs.Common.{◌≡◌, ◌≢◌, ℕ, ◌+◌, ◌<◌, ◌≤◌, Bool, true, false, eqb, refl, sym, ◌∙◌, List, [], ◌∷◌, length, arith, ⊎_elim, slice_index_or, ext_get_or}
use Rattle.std.proofs.lemmas.Bool.Decides.{eqb_tells}
use Rattle.mesh_names.specs.Triangles.{Triple, Shape}
use Rattle.mesh_names.specs.Partners.{Edge}
use Rattle.mesh_names.specs.Validity.{Shares, IsGraded, IsWalk, IsCompatible, ends_of, is_refined, GradesAreOne}
use Rattle.mesh_names.proofs.Neighbours.{pair-sym}

module _ (triples : List Triple) where
  abbrev mesh_with : List ℕ → Shape
  mesh_with g = record { triples = triples; grades = g }

  abbrev at : List ℕ → ℕ → ℕ
  at g r = slice_index_or g r 0

  -- both lists step alike over a shared edge
  alike : (g h : List ℕ) → IsGraded (mesh_with g) → IsGraded (mesh_with h) → (r q : ℕ) (e f : Edge) → r < length triples → q < length triples → Shares (mesh_with g) r e q f → at g r + at h q ≡ at h r + at g q
  alike g h ig ih r q e f hr hq s = ⊎_elim
      (λ (t : (eqb r q ≡ true) × (r ≡ q)). (λ i. at g r + at h (sym t.1 i)) ∙ swap (at g r) (at h r) ∙ (λ i. at h r + at g (t.1 i)))
      (λ (t : (eqb r q ≡ false) × (r ≢ q)). by t.1 (is_refined e) (is_refined f) refl refl)
      (eqb_tells r q)
    where
      swap : (a b : ℕ) → a + b ≡ b + a
      swap a b = omega arith

      by : r ≢ q → (a b : Bool) → is_refined e ≡ a → is_refined f ≡ b → at g r + at h q ≡ at h r + at g q
      by n true true x y = omega (arith, ig.equal r q e f hr hq n s (x ∙ sym y), ih.equal r q e f hr hq n s (x ∙ sym y))
      by n false false x y = omega (arith, ig.equal r q e f hr hq n s (x ∙ sym y), ih.equal r q e f hr hq n s (x ∙ sym y))
      by n true false x y = omega (arith, ig.more r q e f hr hq n s x y, ih.more r q e f hr hq n s x y)
      by n false true x y =
          let back = pair-sym (ends_of (slice_index_or triples r []) e) (ends_of (slice_index_or triples q []) f) s in
          omega (arith, ig.more q r f e hq hr (λ p. n (sym p)) back y x, ih.more q r f e hq hr (λ p. n (sym p)) back y x)

  walked : (g h : List ℕ) → IsGraded (mesh_with g) → IsGraded (mesh_with h) → (r : ℕ) (qs : List ℕ) (s : ℕ) → r < length triples → IsWalk (mesh_with g) r qs s → at g r + at h s ≡ at h r + at g s
  walked g h ig ih r [] s hr e = (λ i. at g r + at h (sym e i)) ∙ swap (at g r) (at h r) ∙ (λ i. at h r + at g (e i))
    where
      swap : (a b : ℕ) → a + b ≡ b + a
      swap a b = omega arith
  walked g h ig ih r (q ∷ qs) s hr w =
      let one = alike g h ig ih r q w.1.0 w.1.1 hr w.0 w.1.2 in
      let rest = walked g h ig ih q qs s w.0 w.2 in
      omega (arith, one, rest)

  below : (g h : List ℕ) → IsCompatible (mesh_with g) → IsCompatible (mesh_with h) → (r : ℕ) → r < length triples → at g r ≤ at h r
  below g h cg ch r hr = let l = cg.least r hr in let w = walked g h cg.graded ch.graded r l.0 l.1 hr l.3 in omega (arith, w, l.4)

  same : (g h : List ℕ) → IsCompatible (mesh_with g) → IsCompatible (mesh_with h) → g ≡ h
  same g h cg ch = ext_get_or 0 g h (cg.each ∙ sym ch.each) (λ r hr.
      let in_range : r < length triples = omega (arith, hr, cg.each) in
      omega (arith, below g h cg ch r in_range, below h g ch cg r in_range))

pub grades_are_one : GradesAreOne
grades_are_one triples grades others cg ch = same triples grades others cg ch
