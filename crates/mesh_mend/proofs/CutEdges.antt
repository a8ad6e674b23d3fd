-- A triangle made of a pair and a centre: which edges and corners two of them share.
use Rattle.std.proofs.Common.{◌≡◌, ℕ, ◌<◌, ◌≤◌, ◌⊎◌, true, false, List, [], ◌∷◌, refl, sym, ◌∙◌, inl, inr, ⊎_elim, arith, true≢false}
use Rattle.mesh_names.specs.Triangles.{Triple}
use Rattle.mesh_names.specs.Partners.{Edge, Edge0, Edge1, Edge2}
use Rattle.mesh_names.specs.Validity.{HasCorner, IsSamePair, IsTwin, ends_of, is_refined}
use Rattle.compat_check.specs.Faults.{IsRepeated}

abbrev pub cut : ℕ × ℕ → ℕ → Triple
cut p c = p.0 ∷ p.1 ∷ c ∷ []

-- the end of the pair at an edge that leads to the centre
abbrev pub tip : Edge → ℕ × ℕ → ℕ
tip Edge0 p = p.1
tip Edge1 p = p.0
tip Edge2 p = p.0

-- both edges are the pairs themselves, or both lead from one end to one centre
abbrev pub AreOneEdge : ℕ × ℕ → ℕ → Edge → ℕ × ℕ → ℕ → Edge → Type 0
AreOneEdge p c g q d h = ((is_refined g ≡ true) × (is_refined h ≡ true) × IsSamePair p q) ⊎ ((is_refined g ≡ false) × (is_refined h ≡ false) × (c ≡ d) × (tip g p ≡ tip h q))

-- both ends are below this number
abbrev pub Below : ℕ → ℕ × ℕ → Type 0
Below v p = (p.0 < v) × (p.1 < v)

module _ (v : ℕ) (p q : ℕ × ℕ) (c d : ℕ) (bp : Below v p) (bq : Below v q) (hc : v ≤ c) (hd : v ≤ d) where
  pub one_edge_of_cuts : (g h : Edge) → IsSamePair (ends_of (cut p c) g) (ends_of (cut q d) h) → AreOneEdge p c g q d h
  one_edge_of_cuts Edge2 Edge2 s = inl (refl, refl, s)
  one_edge_of_cuts Edge2 Edge0 s = absurd (⊎_elim (λ x. omega (arith, x.1, bp.1)) (λ x. omega (arith, x.0, bp.0)) s)
  one_edge_of_cuts Edge2 Edge1 s = absurd (⊎_elim (λ x. omega (arith, x.0, bp.0)) (λ x. omega (arith, x.1, bp.1)) s)
  one_edge_of_cuts Edge0 Edge2 s = absurd (⊎_elim (λ x. omega (arith, x.1, bq.1)) (λ x. omega (arith, x.1, bq.0)) s)
  one_edge_of_cuts Edge1 Edge2 s = absurd (⊎_elim (λ x. omega (arith, x.0, bq.0)) (λ x. omega (arith, x.0, bq.1)) s)
  one_edge_of_cuts Edge0 Edge0 s = ⊎_elim (λ x. inr (refl, refl, x.1, x.0)) (λ x. absurd (omega (arith, x.0, bp.1))) s
  one_edge_of_cuts Edge0 Edge1 s = ⊎_elim (λ x. absurd (omega (arith, x.0, bp.1))) (λ x. inr (refl, refl, x.1, x.0)) s
  one_edge_of_cuts Edge1 Edge0 s = ⊎_elim (λ x. absurd (omega (arith, x.1, bp.0))) (λ x. inr (refl, refl, x.0, x.1)) s
  one_edge_of_cuts Edge1 Edge1 s = ⊎_elim (λ x. inr (refl, refl, x.0, x.1)) (λ x. absurd (omega (arith, x.1, bp.0))) s

  centre_back : HasCorner (cut q d) c → c ≡ d
  centre_back h = ⊎_elim (λ x. omega (arith, x, bq.0)) (λ y. ⊎_elim (λ x. omega (arith, x, bq.1)) (λ x. x) y) h

  end_back : (x : ℕ) → x < v → HasCorner (cut q d) x → (x ≡ q.0) ⊎ (x ≡ q.1)
  end_back x low h = ⊎_elim (λ e. inl e) (λ y. ⊎_elim (λ e. inr e) (λ e. absurd (omega (arith, e, low))) y) h

  pub twin_cuts : (p.0 ≡ p.1 → ⊥) → IsTwin (cut p c) (cut q d) → (c ≡ d) × IsSamePair p q
  twin_cuts apart twin = (
    centre_back twin.2,
    ⊎_elim
        (λ (a : p.0 ≡ q.0). ⊎_elim (λ (b : p.1 ≡ q.0). absurd (apart (a ∙ sym b))) (λ (b : p.1 ≡ q.1). inl (a, b)) (end_back p.1 bp.1 twin.1))
        (λ (a : p.0 ≡ q.1). ⊎_elim (λ (b : p.1 ≡ q.0). inr (a, b)) (λ (b : p.1 ≡ q.1). absurd (apart (a ∙ sym b))) (end_back p.1 bp.1 twin.1))
        (end_back p.0 bp.0 twin.0),
  )

pub cut_distinct : (v : ℕ) (p : ℕ × ℕ) (c : ℕ) → Below v p → v ≤ c → (p.0 ≡ p.1 → ⊥) → IsRepeated (cut p c) → ⊥
cut_distinct v p c bp hc apart h = ⊎_elim (λ x. apart x) (λ y. ⊎_elim (λ x. omega (arith, x, bp.1)) (λ x. omega (arith, x, bp.0)) y) h

-- a tip is one of the two ends
pub tip_is : (g : Edge) (p : ℕ × ℕ) → (tip g p ≡ p.0) ⊎ (tip g p ≡ p.1)
tip_is Edge0 p = inr refl
tip_is Edge1 p = inl refl
tip_is Edge2 p = inl refl

-- no corner is an end of each of the three edges
pub no_common : (a b c x y z : ℕ) → (a ≡ b → ⊥) → (b ≡ c → ⊥) → (a ≡ c → ⊥) → x ≡ y → x ≡ z → (y ≡ b) ⊎ (y ≡ c) → (z ≡ c) ⊎ (z ≡ a) → (x ≡ a) ⊎ (x ≡ b) → ⊥
no_common a b c x y z ab bc ac xy xz first second third = ⊎_elim
    (λ (e : x ≡ a). ⊎_elim (λ (f : y ≡ b). ab (sym e ∙ xy ∙ f)) (λ (f : y ≡ c). ac (sym e ∙ xy ∙ f)) first)
    (λ (e : x ≡ b). ⊎_elim (λ (f : z ≡ c). bc (sym e ∙ xz ∙ f)) (λ (f : z ≡ a). ab (sym f ∙ sym xz ∙ e)) second)
    third
