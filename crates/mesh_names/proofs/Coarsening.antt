-- Steps of coarsening come to an end, at one conforming forest.
use Rattle.std.proofs.Common.{◌≡◌, ◌⊎◌, ℕ, zero, suc, ◌-◌, ◌<◌, ◌≤◌, Bool, true, false, cond, not, ◌&&◌, true≢false, refl, sym, ap, ◌∙◌, subst, List, [], ◌∷◌, arith, inl, inr, ⊎_elim}
use Rattle.std.specs.Prelude.{Option, Some, None}
use Rattle.std.specs.Int.{is_negative}
use Rattle.std.specs.FinSet.{contains, remove, len, items, contains-empty, contains-remove, len-remove, empty_of_len}
use Rattle.mesh_names.specs.Names.{Name, name_cmp, name_eq}
use Rattle.mesh_names.specs.Order.{name_cmp_total}
use Rattle.mesh_names.specs.Triangles.{Shape}
use Rattle.mesh_names.specs.Forests.{Names, Has, Within, IsForest, Conforms}
use Rattle.mesh_names.specs.Partners.{Across, InPatch, partner}
use Rattle.mesh_names.specs.Conformity.{HoldsPartners}
use Rattle.mesh_names.specs.Coarsening.{MarkedForest, child_at, IsFullyMarked, CanCoarsen, after_step, after_steps, AreSteps, HasEnded, IsCoarsened, IsConforming, StepsCanEnd, StepsEndAtOne, CoarsenedConforms, CoarsenedOnce}
use Rattle.mesh_names.proofs.Neighbours.{some_inj, none_some}
use Rattle.mesh_names.proofs.Conforming.{conforms_by_partners}
use Rattle.mesh_names.proofs.Sets.{In, both_sides, within-both, has-item, tied-same, same-tied}
use Rattle.mesh_names.proofs.Booleans.{and_both, and-both, not_true, not-true, true-not}
use Rattle.mesh_names.proofs.Steps.{was_there, stays_there, steps_keep}
use Rattle.mesh_names.proofs.Worths.{kept, inv_start, inv_after, end_is, gone_can, can_gone}

both_or : {A B : Type 0} → A ⊎ (A → ⊥) → B ⊎ (B → ⊥) → (A × B) ⊎ (A × B → ⊥)
both_or a b = ⊎_elim (λ x. ⊎_elim (λ y. inl (x, y)) (λ n. inr (λ p. n p.1)) b) (λ n. inr (λ p. n p.0)) a

is_true : (b : Bool) → (b ≡ true) ⊎ (b ≡ true → ⊥)
is_true true = inl refl
is_true false = inr (λ e. true≢false (sym e))

is_false : (b : Bool) → (b ≡ false) ⊎ (b ≡ false → ⊥)
is_false false = inl refl
is_false true = inr (λ e. true≢false e)

module _ (x : Across) (s : MarkedForest) where
  abbrev Parts : Name → Type 0
  Parts q = (Has s.forest q × (contains s.forest (child_at q false) ≡ false)) × ((contains s.forest (child_at q true) ≡ false) × ((is_negative (s.marks (child_at q false)) ≡ true) × (is_negative (s.marks (child_at q true)) ≡ true)))

  parts_loose : (q : Name) → Parts q → IsFullyMarked s q
  parts_loose q p = record {
    member = p.0.0;
    leaves = λ b. side (λ b. contains s.forest (child_at q b) ≡ false) p.0.1 p.1.0 b;
    below = λ b. side (λ b. is_negative (s.marks (child_at q b)) ≡ true) p.1.1.0 p.1.1.1 b;
  }
    where
      side : (P : Bool → Type 0) → P false → P true → (b : Bool) → P b
      side P f t false = f
      side P f t true = t

  loose_parts : (q : Name) → IsFullyMarked s q → Parts q
  loose_parts q l = ((l.member, l.leaves false), (l.leaves true, (l.below false, l.below true)))

  loose_or_not : (q : Name) → IsFullyMarked s q ⊎ (IsFullyMarked s q → ⊥)
  loose_or_not q = ⊎_elim (λ p. inl (parts_loose q p)) (λ n. inr (λ l. n (loose_parts q l)))
      (both_or (both_or (is_true (contains s.forest q)) (is_false (contains s.forest (child_at q false))))
      (both_or (is_false (contains s.forest (child_at q true))) (both_or (is_true (is_negative (s.marks (child_at q false)))) (is_true (is_negative (s.marks (child_at q true)))))))

  can_or_not : (p : Name) → CanCoarsen x s p ⊎ (CanCoarsen x s p → ⊥)
  can_or_not p = ⊎_elim (λ own. by own (partner x p.0 p.1) refl) (λ n. inr (λ c. n (c p (inl refl)))) (loose_or_not p)
    where
      by : IsFullyMarked s p → (o : Option (Name × Bool)) → partner x p.0 p.1 ≡ o → CanCoarsen x s p ⊎ (CanCoarsen x s p → ⊥)
      by own None e = inl (λ q k. ⊎_elim (λ (h : q ≡ p). subst (λ (y : Name). IsFullyMarked s y) (sym h) own) (λ (m : (t : Bool) × (partner x p.0 p.1 ≡ Some (q, t))). absurd (none_some (q, m.0) (sym e ∙ m.1))) k)
      by own (Some a) e = ⊎_elim
          (λ l. inl (λ q k. ⊎_elim
          (λ (h : q ≡ p). subst (λ (y : Name). IsFullyMarked s y) (sym h) own)
          (λ (m : (t : Bool) × (partner x p.0 p.1 ≡ Some (q, t))). subst (λ (y : Name). IsFullyMarked s y) (λ i. (some_inj a (q, m.0) (sym e ∙ m.1) i).0) l)
          k))
          (λ n. inr (λ c. n (c a.0 (inr (a.1, e)))))
          (loose_or_not a.0)

  search_in : (ks : List Name) → ((p : Name) × CanCoarsen x s p) ⊎ ((p : Name) → In p ks → CanCoarsen x s p → ⊥)
  search_in [] = inr (λ p h c. h)
  search_in (k ∷ ks) = ⊎_elim
      (λ c. inl (k, c))
      (λ n. ⊎_elim
      (λ f. inl f)
      (λ g. inr (λ p h c. ⊎_elim (λ (e : p ≡ k). n (subst (λ (y : Name). CanCoarsen x s y) e c)) (λ (i : In p ks). g p i c) h))
      (search_in ks))
      (can_or_not k)

  some_or_end : ((p : Name) × CanCoarsen x s p) ⊎ HasEnded x s
  some_or_end = ⊎_elim (λ f. inl f) (λ g. inr (λ p c. g p (has-item s.forest p (c p (inl refl)).member) c)) (search_in (items s.forest))

  -- a step makes the forest smaller
  removed : (f : Names) (k q : Name) → contains (remove f k) q ≡ (not (name_eq q k) && contains f q)
  removed f k q = contains-remove name_cmp_total f k q

  smaller : (f : Names) (k : Name) → len (remove f k) ≤ len f
  smaller f k = by (contains f k) refl
    where
      by : (c : Bool) → contains f k ≡ c → len (remove f k) ≤ len f
      by true e = let h = len-remove name_cmp_total f k ∙ ap (λ (c : Bool). cond c (len f - 1) (len f)) e in omega (arith, h)
      by false e = let h = len-remove name_cmp_total f k ∙ ap (λ (c : Bool). cond c (len f - 1) (len f)) e in omega (arith, h)

  some_len : (f : Names) (k : Name) → Has f k → 0 < len f
  some_len f k h = by (len f) refl
    where
      by : (n : ℕ) → len f ≡ n → 0 < n
      by zero e = absurd (both_sides (contains f k) h (ap (λ (y : Names). contains y k) (empty_of_len f e) ∙ contains-empty name_cmp k))
      by (suc n) e = omega arith

  less : (f : Names) (k : Name) → Has f k → len (remove f k) < len f
  less f k h = let e = len-remove name_cmp_total f k ∙ ap (λ (c : Bool). cond c (len f - 1) (len f)) h in let l = some_len f k h in omega (arith, e, l)

  abbrev pub without : Option (Name × Bool) → Names → Names
  without None f = f
  without (Some m) f = remove f m.0

  without-small : (o : Option (Name × Bool)) (f : Names) → len (without o f) ≤ len f
  without-small None f = omega arith
  without-small (Some m) f = smaller f m.0

  pub step-without : (p : Name) → (after_step x p s).forest ≡ without (partner x p.0 p.1) (remove s.forest p)
  step-without p = within-both (after_step x p s).forest (without (partner x p.0 p.1) (remove s.forest p)) to from
    where
      to : Within (after_step x p s).forest (without (partner x p.0 p.1) (remove s.forest p))
      to q h = by (partner x p.0 p.1) refl
        where
          was : Has s.forest q × (InPatch x p q → ⊥)
          was = was_there x s p q h

          one : Has (remove s.forest p) q
          one = removed s.forest p q ∙ and-both (not (name_eq q p)) (contains s.forest q) (not-true (name_eq q p) (not_true (name_eq q p) (λ e. was.1 (inl (tied-same q p e))))) was.0

          by : (o : Option (Name × Bool)) → partner x p.0 p.1 ≡ o → Has (without o (remove s.forest p)) q
          by None e = one
          by (Some m) e = removed (remove s.forest p) m.0 q ∙ and-both (not (name_eq q m.0)) (contains (remove s.forest p) q) (not-true (name_eq q m.0) (not_true (name_eq q m.0) (λ d. was.1 (inr (m.1, e ∙ (λ i. Some (sym (tied-same q m.0 d) i, m.1))))))) one

      from : Within (without (partner x p.0 p.1) (remove s.forest p)) (after_step x p s).forest
      from q h = by (partner x p.0 p.1) refl h
        where
          first : Has (remove s.forest p) q → ((t : Bool) → partner x p.0 p.1 ≡ Some (q, t) → ⊥) → Has (after_step x p s).forest q
          first k n =
              let b = and_both (not (name_eq q p)) (contains s.forest q) (sym (removed s.forest p q) ∙ k) in
              stays_there x s p q b.1 (λ i. ⊎_elim (λ (e : q ≡ p). both_sides (name_eq q p) (same-tied q p e) (true-not (name_eq q p) b.0)) (λ (m : (t : Bool) × (partner x p.0 p.1 ≡ Some (q, t))). n m.0 m.1) i)

          by : (o : Option (Name × Bool)) → partner x p.0 p.1 ≡ o → Has (without o (remove s.forest p)) q → Has (after_step x p s).forest q
          by None e k = first k (λ t f. none_some (q, t) (sym e ∙ f))
          by (Some m) e k =
              let b = and_both (not (name_eq q m.0)) (contains (remove s.forest p) q) (sym (removed (remove s.forest p) m.0 q) ∙ k) in
              first b.1 (λ t f. both_sides (name_eq q m.0) (same-tied q m.0 (λ i. (some_inj (q, t) m (sym f ∙ e) i).0)) (true-not (name_eq q m.0) b.0))

  pub fewer : (p : Name) → CanCoarsen x s p → len (after_step x p s).forest < len s.forest
  fewer p c =
      let e = ap (λ (y : Names). len y) (step-without p) in
      let a = without-small (partner x p.0 p.1) (remove s.forest p) in
      let b = less s.forest p (c p (inl refl)).member in
      omega (arith, e, a, b)

can_end : (x : Across) (k : ℕ) (s : MarkedForest) → len s.forest ≤ k → (ps : List Name) × AreSteps x ps s × HasEnded x (after_steps x ps s)
can_end x zero s h = ([], tt, λ p c. let l = some_len x s s.forest p (c p (inl refl)).member in omega (arith, h, l))
can_end x (suc k) s h = ⊎_elim
    (λ (f : (p : Name) × CanCoarsen x s p).
    let l = fewer x s f.0 f.1 in
    let rest = can_end x k (after_step x f.0 s) (omega (arith, h, l)) in
    (f.0 ∷ rest.0, (f.1, rest.1), rest.2))
    (λ (e : HasEnded x s). ([], tt, e))
    (some_or_end x s)

pub steps_can_end : StepsCanEnd
steps_can_end mesh x s st =
    let run = can_end x (len s.forest) s (omega arith) in
    ((after_steps x run.0 s).forest, record { steps = run.0; are_steps = run.1; ended = run.2; is = refl })

module _ (mesh : Shape) (x : Across) (s : MarkedForest) (st : IsConforming mesh x s) where
  partners : HoldsPartners x s.forest
  partners = (conforms_by_partners mesh x st.tells s.forest st.forest).0 st.conforms

  -- the coarsened forest has the members that are worth nothing
  coarsened-kept : (c : Names) → IsCoarsened x s c → c ≡ kept x s
  coarsened-kept c h = h.is ∙ end_is mesh x st.tells s st.forest partners (after_steps x h.steps s) (inv_after mesh x st.tells s st.forest partners h.steps s (inv_start mesh x st.tells s st.forest partners) h.are_steps) h.ended

pub steps_end_at_one : StepsEndAtOne
steps_end_at_one mesh x s st a b one other = coarsened-kept mesh x s st a one ∙ sym (coarsened-kept mesh x s st b other)

-- after steps the forest conforms, and is a part of the first
pub steps_within : (mesh : Shape) (x : Across) (ps : List Name) (s : MarkedForest) → IsConforming mesh x s → AreSteps x ps s → IsConforming mesh x (after_steps x ps s) × Within (after_steps x ps s).forest s.forest
steps_within mesh x [] s st h = (st, λ n i. i)
steps_within mesh x (p ∷ ps) s st h =
    let rest = steps_within mesh x ps (after_step x p s) (steps_keep mesh x s st p h.0) h.1 in
    (rest.0, λ n i. (was_there x s p n (rest.1 n i)).0)

pub coarsened_conforms : CoarsenedConforms
coarsened_conforms mesh x s st c h =
    let end = steps_within mesh x h.steps s st h.are_steps in
    (subst (λ (t : Names). IsForest mesh t) (sym h.is) end.0.forest, subst (λ (t : Names). Conforms mesh t) (sym h.is) end.0.conforms, subst (λ (t : Names). Within t s.forest) (sym h.is) end.1)

pub coarsened_once : CoarsenedOnce
coarsened_once mesh x s st once c end n h =
    let holds = partners mesh x s st in
    let is = coarsened-kept mesh x s st c end in (
      λ out. gone_can mesh x st.tells s st.forest holds once n h (ap (λ (t : Names). contains t n) (sym is) ∙ out),
      λ can. ap (λ (t : Names). contains t n) is ∙ can_gone mesh x st.tells s st.forest holds n can,
    )
