-- Single steps of coarsening.
use Rattle.std.proofs.Common.{◌≡◌, ◌⊎◌, ℕ, zero, suc, ◌-◌, ◌<◌, min, ℤ, pos, negsuc, ◌+ℤ◌, ltb, Bool, true, false, cond, not, ◌&&◌, true≢false, refl, sym, ap, ◌∙◌, subst, ◌∷◌, arith, inl, inr, ⊎_elim, ltb-true, ltb-false, lt-ltb}
use Rattle.std.specs.Prelude.{Option, Some, None}
use Rattle.std.specs.Int.{is_negative}
use Rattle.std.specs.FinSet.{contains}
use Rattle.mesh_names.specs.Names.{Name, name_eq}
use Rattle.mesh_names.specs.Triangles.{Shape, size}
use Rattle.mesh_names.specs.Forests.{Has, IsForest}
use Rattle.mesh_names.specs.Partners.{Across, Tells, InPatch, partner}
use Rattle.mesh_names.specs.Conformity.{HoldsPartners}
use Rattle.mesh_names.specs.Coarsening.{MarkedForest, child_at, CanCoarsen, is_partner, in_patch, joined_mark, after_step, allowance, StepsKeep, StepsSwap}
use Rattle.mesh_names.proofs.Neighbours.{some_inj}
use Rattle.mesh_names.proofs.Pairs.{partners_pair}
use Rattle.mesh_names.proofs.Conforming.{conforms_by_partners}
use Rattle.mesh_names.proofs.Booleans.{and_both, and-both, not-true, true-not, not_true, retained}
use Rattle.mesh_names.proofs.Sets.{is_or_not, both_sides, or_either, or-left, or-right, tied-same, same-tied, within-both}

-- ---- marks
one_more : (m : ℕ) → allowance (negsuc m +ℤ pos 1) ≡ m
one_more zero = refl
one_more (suc m) = ap (λ (c : Bool). allowance (cond c (negsuc (suc (suc m) - suc 1)) (pos (1 - suc (suc m))))) (lt-ltb 1 (suc (suc m)) (omega arith)) ∙ omega arith

pub joined-allowance : (a b : ℤ) → is_negative a ≡ true → is_negative b ≡ true → suc (allowance (joined_mark a b)) ≡ min (allowance a) (allowance b)
joined-allowance (pos m) b h k = absurd (omega (arith, ltb-true m 0 h))
joined-allowance (negsuc m) (pos n) h k = absurd (omega (arith, ltb-true n 0 k))
joined-allowance (negsuc m) (negsuc n) h k = by (ltb m n) refl
  where
    by : (c : Bool) → ltb m n ≡ c → suc (allowance (cond c (negsuc m) (negsuc n) +ℤ pos 1)) ≡ min (suc m) (suc n)
    by true e = omega (arith, one_more m, ltb-true m n e)
    by false e = omega (arith, one_more n, ltb-false m n e)

pub negative-allowance : (a : ℤ) → is_negative a ≡ true → 0 < allowance a
negative-allowance (pos m) h = absurd (omega (arith, ltb-true m 0 h))
negative-allowance (negsuc m) h = omega arith

pub allowance-negative : (a : ℤ) → 0 < allowance a → is_negative a ≡ true
allowance-negative (pos m) h = absurd (omega (arith, h))
allowance-negative (negsuc m) h = refl

-- ---- patches
first-is : (o : Option (Name × Bool)) (q : Name) → is_partner o q ≡ true → (t : Bool) × (o ≡ Some (q, t))
first-is None q e = absurd (true≢false (sym e))
first-is (Some m) q e = (m.1, λ i. Some (sym (tied-same q m.0 e) i, m.1))

is-first : (o : Option (Name × Bool)) (q : Name) (t : Bool) → o ≡ Some (q, t) → is_partner o q ≡ true
is-first o q t e = subst (λ (y : Option (Name × Bool)). is_partner y q ≡ true) (sym e) (same-tied q q refl)

module _ (x : Across) where
  pub patch-is : (p q : Name) → in_patch x p q ≡ true → InPatch x p q
  patch-is p q e = ⊎_elim (λ h. inl (tied-same q p h)) (λ h. inr (first-is (partner x p.0 p.1) q h)) (or_either (name_eq q p) (is_partner (partner x p.0 p.1) q) e)

  pub is-patch : (p q : Name) → InPatch x p q → in_patch x p q ≡ true
  is-patch p q h = ⊎_elim
      (λ (e : q ≡ p). or-left (name_eq q p) (is_partner (partner x p.0 p.1) q) (same-tied q p e))
      (λ (m : (t : Bool) × (partner x p.0 p.1 ≡ Some (q, t))). or-right (name_eq q p) (is_partner (partner x p.0 p.1) q) (is-first (partner x p.0 p.1) q m.0 m.1))
      h

  pub not-patch : (p q : Name) → (InPatch x p q → ⊥) → in_patch x p q ≡ false
  not-patch p q n = not_true (in_patch x p q) (λ e. n (patch-is p q e))

  pub patch_or_not : (p q : Name) → InPatch x p q ⊎ (InPatch x p q → ⊥)
  patch_or_not p q = ⊎_elim (λ e. inl (patch-is p q e)) (λ e. inr (λ h. both_sides (in_patch x p q) (is-patch p q h) e)) (is_or_not (in_patch x p q))

  -- ---- one step
  module _ (s : MarkedForest) (p : Name) where
    step-has : (q : Name) → contains (after_step x p s).forest q ≡ (contains s.forest q && not (in_patch x p q))
    step-has q = retained s.forest (λ y. not (in_patch x p y)) q

    pub was_there : (q : Name) → Has (after_step x p s).forest q → Has s.forest q × (InPatch x p q → ⊥)
    was_there q h =
        let b = and_both (contains s.forest q) (not (in_patch x p q)) (sym (step-has q) ∙ h) in
        (b.0, λ i. both_sides (in_patch x p q) (is-patch p q i) (true-not (in_patch x p q) b.1))

    pub stays_there : (q : Name) → Has s.forest q → (InPatch x p q → ⊥) → Has (after_step x p s).forest q
    stays_there q h n = step-has q ∙ and-both (contains s.forest q) (not (in_patch x p q)) h (not-true (in_patch x p q) (not-patch p q n))

    pub still_out : (q : Name) → contains s.forest q ≡ false → contains (after_step x p s).forest q ≡ false
    still_out q h = not_true (contains (after_step x p s).forest q) (λ e. both_sides (contains s.forest q) (was_there q e).0 h)

    pub mark-in : (q : Name) → InPatch x p q → (after_step x p s).marks q ≡ joined_mark (s.marks (child_at q false)) (s.marks (child_at q true))
    mark-in q h = ap (λ (c : Bool). cond c (joined_mark (s.marks (child_at q false)) (s.marks (child_at q true))) (s.marks q)) (is-patch p q h)

    pub mark-out : (q : Name) → (InPatch x p q → ⊥) → (after_step x p s).marks q ≡ s.marks q
    mark-out q n = ap (λ (c : Bool). cond c (joined_mark (s.marks (child_at q false)) (s.marks (child_at q true))) (s.marks q)) (not-patch p q n)

  -- ---- patches of names of the mesh
  module _ (mesh : Shape) (tells : Tells mesh x) where
    pub patch-back : (p q : Name) → p.0 < size mesh → InPatch x p q → InPatch x q p
    patch-back p q hp h = ⊎_elim (λ (e : q ≡ p). inl (sym e)) (λ (m : (t : Bool) × (partner x p.0 p.1 ≡ Some (q, t))). inr (partners_pair mesh x tells p q m.0 hp m.1).back) h

    pub patch-trans : (p a q : Name) → p.0 < size mesh → InPatch x p a → InPatch x a q → InPatch x p q
    patch-trans p a q hp h k = ⊎_elim
        (λ (e : a ≡ p). subst (λ (y : Name). InPatch x y q) e k)
        (λ (m : (t : Bool) × (partner x p.0 p.1 ≡ Some (a, t))). ⊎_elim
        (λ (e : q ≡ a). inr (m.0, m.1 ∙ (λ i. Some (sym e i, m.0))))
        (λ (n : (t : Bool) × (partner x a.0 a.1 ≡ Some (q, t))).
        let back = (partners_pair mesh x tells p a m.0 hp m.1).back in
        inl (λ i. (some_inj (q, n.0) (p, back.0) (sym n.1 ∙ back.1) i).0))
        k)
        h

    -- the partners of members are members
    module _ (s : MarkedForest) (forest : IsForest mesh s.forest) (holds : HoldsPartners x s.forest) where
      -- a child of a member of one patch is in no other
      child_apart : (p q a : Name) (b : Bool) → CanCoarsen x s p → CanCoarsen x s q → InPatch x p a → InPatch x q (child_at a b) → ⊥
      child_apart p q a b hp hq h k = both_sides (contains s.forest (child_at a b)) (hq (child_at a b) k).member ((hp a h).leaves b)

      apart : (p q a : Name) → (InPatch x p q → ⊥) → CanCoarsen x s p → CanCoarsen x s q → InPatch x q a → InPatch x p a → ⊥
      apart p q a n hp hq k h =
          let rp = forest.rooted p (hp p (inl refl)).member in
          let rq = forest.rooted q (hq q (inl refl)).member in
          n (patch-trans p a q rp h (patch-back q a rq k))

      still_can : (p q : Name) → (InPatch x p q → ⊥) → CanCoarsen x s p → CanCoarsen x s q → CanCoarsen x (after_step x p s) q
      still_can p q n hp hq a k = record {
        member = stays_there s p a (hq a k).member (apart p q a n hp hq k);
        leaves = λ b. still_out s p (child_at a b) ((hq a k).leaves b);
        below = λ b. ap (λ (z : ℤ). is_negative z) (mark-out s p (child_at a b) (child_apart q p a b hq hp k)) ∙ (hq a k).below b;
      }

      both_out : (p q n : Name) → Has (after_step x q (after_step x p s)).forest n → Has (after_step x p (after_step x q s)).forest n
      both_out p q n h =
          let a = was_there (after_step x p s) q n h in
          let b = was_there s p n a.0 in
          stays_there (after_step x q s) p n (stays_there s q n b.0 a.1) b.1

      -- a member of the patch that is after_step first, or last
      mark_first : (p q n : Name) → CanCoarsen x s p → CanCoarsen x s q → InPatch x p n → (InPatch x q n → ⊥) → (after_step x q (after_step x p s)).marks n ≡ (after_step x p (after_step x q s)).marks n
      mark_first p q n hp hq h k =
          mark-out (after_step x p s) q n k
          ∙ mark-in s p n h
          ∙ (λ i. joined_mark (sym (mark-out s q (child_at n false) (child_apart p q n false hp hq h)) i) (sym (mark-out s q (child_at n true) (child_apart p q n true hp hq h)) i))
          ∙ sym (mark-in (after_step x q s) p n h)

      marks_swap : (p q : Name) → (InPatch x p q → ⊥) → CanCoarsen x s p → CanCoarsen x s q → (n : Name) → (after_step x q (after_step x p s)).marks n ≡ (after_step x p (after_step x q s)).marks n
      marks_swap p q none hp hq n = ⊎_elim
          (λ (h : InPatch x p n). mark_first p q n hp hq h (λ k. apart p q n none hp hq k h))
          (λ (h : InPatch x p n → ⊥). ⊎_elim
          (λ (k : InPatch x q n). sym (mark_first q p n hq hp k h))
          (λ (k : InPatch x q n → ⊥). mark-out (after_step x p s) q n k ∙ mark-out s p n h ∙ sym (mark-out s q n k) ∙ sym (mark-out (after_step x q s) p n h))
          (patch_or_not q n))
          (patch_or_not p n)

      swap : (p q : Name) → (InPatch x p q → ⊥) → CanCoarsen x s p → CanCoarsen x s q → after_step x q (after_step x p s) ≡ after_step x p (after_step x q s)
      swap p q n hp hq =
          let sets : (after_step x q (after_step x p s)).forest ≡ (after_step x p (after_step x q s)).forest = within-both (after_step x q (after_step x p s)).forest (after_step x p (after_step x q s)).forest (both_out p q) (both_out q p) in
          λ i. record { forest = sets i; marks = λ a. marks_swap p q n hp hq a i }

      pub next_forest : (p : Name) → CanCoarsen x s p → IsForest mesh (after_step x p s).forest
      next_forest p hp = record {
        rooted = λ n h. forest.rooted n (was_there s p n h).0;
        shallow = λ n h. forest.shallow n (was_there s p n h).0;
        closed = λ r b w h.
            let k = was_there s p (r, b ∷ w) h in
            stays_there s p (r, w) (forest.closed r b w k.0) (λ i. both_sides (contains s.forest (r, b ∷ w)) k.0 ((hp (r, w) i).leaves b));
      }

      pub next_holds : (p : Name) → CanCoarsen x s p → HoldsPartners x (after_step x p s).forest
      next_holds p hp r w m t h e =
          let k = was_there s p (r, w) h in
          let rp = forest.rooted p (hp p (inl refl)).member in
          let back = (partners_pair mesh x tells (r, w) m t (forest.rooted (r, w) k.0) e).back in
          stays_there s p m (holds r w m t k.0 e) (λ i. k.1 (patch-trans p m (r, w) rp i (inr back)))

pub steps_keep : StepsKeep
steps_keep mesh x s st p hp =
    let holds = (conforms_by_partners mesh x st.tells s.forest st.forest).0 st.conforms in
    let forest = next_forest x mesh st.tells s st.forest holds p hp in
    record {
      tells = st.tells;
      forest = forest;
      conforms = (conforms_by_partners mesh x st.tells (after_step x p s).forest forest).1 (next_holds x mesh st.tells s st.forest holds p hp);
    }

pub steps_swap : StepsSwap
steps_swap mesh x s st p q n hp hq =
    let holds = (conforms_by_partners mesh x st.tells s.forest st.forest).0 st.conforms in
    let rq = st.forest.rooted q (hq q (inl refl)).member in (
      still_can x mesh st.tells s st.forest holds p q n hp hq,
      still_can x mesh st.tells s st.forest holds q p (λ k. n (patch-back x mesh st.tells q p rq k)) hq hp,
      swap x mesh st.tells s st.forest holds p q n hp hq,
    )
