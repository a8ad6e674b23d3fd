-- A mesh has one list of grades, however great they are.
use Rattle.std.proofs.Common.{◌≡◌, ℕ, ◌+◌, ◌<◌, ◌≤◌, Bool, true, false, List, [], ◌∷◌, length, refl, sym, ◌∙◌, subst, ⊎_elim, arith, inl, inr}
use Rattle.std.specs.Prelude.{slice_index_or}
use Rattle.std.proofs.lemmas.Bool.{cases_eq}
use Rattle.mesh_names.specs.Triangles.{Triple}
use Rattle.mesh_names.specs.Partners.{Edge}
use Rattle.mesh_names.specs.Validity.{IsGraded, IsSamePair, IsWalk, Shares, ends_of, is_refined}
use Rattle.compat_check.specs.Checks.{AreGradesOf, bare}
use Rattle.compat_check.specs.Faults.{triple_in}

pub same_pair_back : (p q : ℕ × ℕ) → IsSamePair p q → IsSamePair q p
same_pair_back p q h = ⊎_elim (λ (x : (p.0 ≡ q.0) × (p.1 ≡ q.1)). inl (sym x.0, sym x.1)) (λ (x : (p.0 ≡ q.1) × (p.1 ≡ q.0)). inr (sym x.1, sym x.0)) h

module _ (triples : List Triple) where
  by_kind : (g h : List ℕ) → IsGraded (record { triples = triples; grades = g }) → IsGraded (record { triples = triples; grades = h }) → (r q : ℕ) (e f : Edge) → r < length triples → q < length triples → (r ≡ q → ⊥) → Shares (bare triples) r e q f → (a b : Bool) → is_refined e ≡ a → is_refined f ≡ b →
      slice_index_or g r 0 + slice_index_or h q 0 ≡ slice_index_or h r 0 + slice_index_or g q 0
  by_kind g h ig ih r q e f hr hq n s true true x y = omega (arith, ig.equal r q e f hr hq n s (x ∙ sym y), ih.equal r q e f hr hq n s (x ∙ sym y))
  by_kind g h ig ih r q e f hr hq n s false false x y = omega (arith, ig.equal r q e f hr hq n s (x ∙ sym y), ih.equal r q e f hr hq n s (x ∙ sym y))
  by_kind g h ig ih r q e f hr hq n s true false x y = omega (arith, ig.more r q e f hr hq n s x y, ih.more r q e f hr hq n s x y)
  by_kind g h ig ih r q e f hr hq n s false true x y =
      let back : Shares (bare triples) q f r e = same_pair_back (ends_of (triple_in triples r) e) (ends_of (triple_in triples q) f) s in
      let apart : q ≡ r → ⊥ = λ p. n (sym p) in
      omega (arith, ig.more q r f e hq hr apart back y x, ih.more q r f e hq hr apart back y x)

  along : (g h : List ℕ) → IsGraded (record { triples = triples; grades = g }) → IsGraded (record { triples = triples; grades = h }) → (r : ℕ) (qs : List ℕ) (s : ℕ) → r < length triples → IsWalk (bare triples) r qs s → slice_index_or g r 0 + slice_index_or h s 0 ≡ slice_index_or h r 0 + slice_index_or g s 0
  along g h ig ih r [] s hr e = let here : slice_index_or g r 0 + slice_index_or h r 0 ≡ slice_index_or h r 0 + slice_index_or g r 0 = omega arith in subst (λ (y : ℕ). slice_index_or g r 0 + slice_index_or h y 0 ≡ slice_index_or h r 0 + slice_index_or g y 0) e here
  along g h ig ih r (q ∷ qs) s hr w =
      let one : slice_index_or g r 0 + slice_index_or h q 0 ≡ slice_index_or h r 0 + slice_index_or g q 0 = ⊎_elim
      (λ (p : r ≡ q). let here : slice_index_or g r 0 + slice_index_or h r 0 ≡ slice_index_or h r 0 + slice_index_or g r 0 = omega arith in subst (λ (y : ℕ). slice_index_or g r 0 + slice_index_or h y 0 ≡ slice_index_or h r 0 + slice_index_or g y 0) p here)
      (λ (n : r ≡ q → ⊥). by_kind g h ig ih r q w.1.0 w.1.1 hr w.0 n w.1.2 (is_refined w.1.0) (is_refined w.1.1) refl refl)
      (cases_eq r q) in
      omega (arith, one, along g h ig ih q qs s w.0 w.2)

  under : (g h : List ℕ) → AreGradesOf triples g → AreGradesOf triples h → (r : ℕ) → r < length triples → slice_index_or g r 0 ≤ slice_index_or h r 0
  under g h cg ch r hr = let l = cg.least r hr in omega (arith, along g h cg.graded ch.graded r l.0 l.1 hr l.3, l.4)

  pub one_grade : (g h : List ℕ) → AreGradesOf triples g → AreGradesOf triples h → (r : ℕ) → r < length triples → slice_index_or g r 0 ≡ slice_index_or h r 0
  one_grade g h cg ch r hr = omega (arith, under g h cg ch r hr, under h g ch cg r hr)
