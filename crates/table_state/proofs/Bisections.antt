-- The bisection of the current round, as a patch enters it or leaves it.
use Rattle.std.proofs.Common.{◌≡◌, ◌≢◌, ℕ, zero, suc, ◌+◌, ◌<◌, ◌≤◌, cond, Bool, true, false, [], ◌∷◌, ◌⊎◌, refl, sym, ap, ◌∙◌, subst, inl, inr, ⊎_elim, arith}
use mathlib.Core.Logic.{dite}
use native.Mathlib.Decide.{ℕ_discrete}
use Rattle.table_words.specs.Setup.{Setup, NamesApart}
use Rattle.table_words.specs.Functions.{update}
use Rattle.table_words.specs.Words.{Node}
use Rattle.table_words.specs.Places.{member_of, child_place}
use Rattle.table_words.specs.Views.{Read, Phase, FirstHalf, SecondHalf, order}
use Rattle.table_words.proofs.Functions.{update_same, update_at, update_other}
use Rattle.table_state.specs.Ghosts.{Life, Placed, chained}
use Rattle.table_state.specs.Chains.{Covers, Reaches}
use Rattle.table_state.specs.Bisections.{IsPlaceOf, Fits, IsSound, IsKept, MayRead, IsPatch, IsLiving, NamesRule}
use Rattle.table_state.proofs.FoundAgain.{one_more, chained_stands, reach_on, Moves, fits_on, sound_on}

-- who, with v at the members of a patch
abbrev pub marks : ℕ → ℕ → ℕ → ℕ → (ℕ → ℕ) → ℕ → ℕ
marks zero n0 n1 v who = update who n0 v
marks (suc y) n0 n1 v who = update (update who n1 v) n0 v

pub marks_cases : (m x n0 n1 v : ℕ) (who : ℕ → ℕ) (n : ℕ) → ((t : Bool) × (y : ℕ) × (chained (Placed x m) t ≡ y + 1) × (n ≡ cond t n1 n0) × (marks m n0 n1 v who n ≡ v)) ⊎ ((marks m n0 n1 v who n ≡ who n) × ((t : Bool) (y : ℕ) → chained (Placed x m) t ≡ y + 1 → n ≡ cond t n1 n0 → ⊥))
marks_cases zero x n0 n1 v who n = dite (ℕ_discrete n n0) (λ e. inl (false, x, refl, e, update_at who n0 n v e)) (λ o. inr (update_other who n0 n v o, none o))
  where
    none : (n ≡ n0 → ⊥) → (t : Bool) (y : ℕ) → chained (Placed x zero) t ≡ y + 1 → n ≡ cond t n1 n0 → ⊥
    none o true y c e = absurd (omega arith)
    none o false y c e = o e
marks_cases (suc i) x n0 n1 v who n = dite (ℕ_discrete n n0) (λ e. inl (false, x, refl, e, update_at (update who n1 v) n0 n v e))
    (λ o. dite (ℕ_discrete n n1) (λ e. inl (true, i, omega arith, e, update_other (update who n1 v) n0 n v o ∙ update_at who n1 n v e)) (λ k. inr (update_other (update who n1 v) n0 n v o ∙ update_other who n1 n v k, none o k)))
  where
    none : (n ≡ n0 → ⊥) → (n ≡ n1 → ⊥) → (t : Bool) (y : ℕ) → chained (Placed x (suc i)) t ≡ y + 1 → n ≡ cond t n1 n0 → ⊥
    none o k true y c e = k e
    none o k false y c e = o e

pub marks_at : (m x n0 n1 v : ℕ) (who : ℕ → ℕ) (t : Bool) (y : ℕ) → chained (Placed x m) t ≡ y + 1 → marks m n0 n1 v who (cond t n1 n0) ≡ v
marks_at m x n0 n1 v who t y c = ⊎_elim (λ k. k.4) (λ k. absurd (k.1 t y c refl)) (marks_cases m x n0 n1 v who (cond t n1 n0))

pub name_side : (name : ℕ → ℕ) (b : ℕ) (t : Bool) → cond t (name (member_of b true)) (name (member_of b false)) ≡ name (member_of b t)
name_side name b true = refl
name_side name b false = refl

module _ (s : Setup) (apart : NamesApart s) (name : ℕ → ℕ) where
  -- a name has one place
  pub one_place : (who : ℕ → ℕ) → ((b : ℕ) (t u : Bool) → who (name (member_of b t)) ≡ b + 1 → name (member_of b t) ≡ name (member_of b u) → t ≡ u) → (x y n : ℕ) → IsPlaceOf s name who x n → IsPlaceOf s name who y n → x ≡ y
  one_place who two x y n (inl a) (inl b) = apart.top_one x y (sym a.1 ∙ b.1)
  one_place who two x y n (inl a) (inr k) = absurd (apart.top_child x _ k.2 (sym a.1 ∙ k.5))
  one_place who two x y n (inr k) (inl a) = absurd (apart.top_child y _ k.2 (sym a.1 ∙ k.5))
  one_place who two x y n (inr k) (inr l) = let q = apart.child_one _ _ k.2 l.2 (sym k.5 ∙ l.5) in let same : k.0 ≡ l.0 = one_more k.0 l.0 (sym k.4 ∙ ap who q.0 ∙ l.4) in
      let side : k.1 ≡ l.1 = two k.0 k.1 l.1 k.4 (q.0 ∙ ap (λ (i : ℕ). name (member_of i l.1)) (sym same)) in k.3 ∙ ap (λ (i : ℕ × Bool × Bool). child_place s.elements i.0 i.1 i.2) (λ i. (same i, side i, q.1 i)) ∙ sym l.3

  -- the members of a patch are two names
  pub two_names : (b m : ℕ) → IsPatch s name b m → (k : ℕ) → name (member_of b true) ≡ k + 1 → name (member_of b false) ≡ name (member_of b true) → ⊥
  two_names b m p k e h = apart.mate_leads (name (member_of b false)) (name (member_of b false)) k (sym p.1 ∙ e) p.0 (h ∙ e)

module _ (s : Setup) (apart : NamesApart s) (round : ℕ) (phase : Phase) (name : ℕ → ℕ) (head history : ℕ → Node) (born died : ℕ → ℕ) (life : ℕ → Life) (who : ℕ → ℕ → ℕ) (read : ℕ → Read) (n : NamesRule s round phase name head history born died life who read)
    (low : (q : ℕ) → IsKept round read q → q ≤ round) (b x m : ℕ) (at : life b ≡ Placed x m) where
  abbrev pub d : ℕ
  d = round + 1

  abbrev pub now : ℕ → ℕ → ℕ
  now v = marks m (name (member_of b false)) (name (member_of b true)) v (who d)

  abbrev pub who' : ℕ → ℕ → ℕ → ℕ
  who' v = update who d (now v)

  -- a name is a member's, or is as it was
  is_member : (v k : ℕ) → ((t : Bool) × (y : ℕ) × (chained (life b) t ≡ y + 1) × (k ≡ name (member_of b t)) × (now v k ≡ v)) ⊎ ((now v k ≡ who d k) × ((t : Bool) (y : ℕ) → chained (life b) t ≡ y + 1 → k ≡ name (member_of b t) → ⊥))
  is_member v k = ⊎_elim (λ c. inl (c.0, c.1, ap (λ (l : Life). chained l c.0) at ∙ c.2, c.3 ∙ name_side name b c.0, c.4)) (λ c. inr (c.0, λ t y h e. c.1 t y (sym (ap (λ (l : Life). chained l t) at) ∙ h) (e ∙ sym (name_side name b t))))
      (marks_cases m x (name (member_of b false)) (name (member_of b true)) v (who d) k)

  pub marked : (v : ℕ) (t : Bool) (y : ℕ) → chained (life b) t ≡ y + 1 → now v (name (member_of b t)) ≡ v
  marked v t y c = ap (now v) (sym (name_side name b t)) ∙ marks_at m x (name (member_of b false)) (name (member_of b true)) v (who d) t y (sym (ap (λ (l : Life). chained l t) at) ∙ c)

  -- another round's bisection
  else_ : (v q : ℕ) → q ≤ round → who' v q ≡ who q
  else_ v q l = update_other who d q (now v) (λ (e : q ≡ round + 1). omega arith)

  -- publication
  module _ (unborn : born b ≡ 0) (first : phase ≡ FirstHalf) (un : (t : Bool) (y : ℕ) → chained (life b) t ≡ y + 1 → who d (name (member_of b t)) ≡ 0)
      (seen : (t : Bool) (y : ℕ) → chained (life b) t ≡ y + 1 → IsPlaceOf s name (who d) y (name (member_of b t))) (linked : (t : Bool) (y : ℕ) → chained (life b) t ≡ y + 1 → (head y).block ≡ b + 1) (live : died b ≡ 0) where
    abbrev born' : ℕ → ℕ
    born' = update born b d

    old : Fits s name head history born died life (who d) d
    old = n.fits d (inr (refl, omega (arith, ap order first)))

    pub stays : (k a : ℕ) → who d k ≡ a + 1 → now (b + 1) k ≡ a + 1
    stays k a w = ⊎_elim (λ c. let z : who d k ≡ 0 = ap (who d) c.3 ∙ un c.0 c.1 c.2 in absurd (omega arith)) (λ c. c.0 ∙ w) (is_member (b + 1) k)

    pub seen_stays : (y k : ℕ) → IsPlaceOf s name (who d) y k → IsPlaceOf s name (now (b + 1)) y k
    seen_stays y k (inl a) = inl a
    seen_stays y k (inr c) = inr (c.0, c.1, c.2, c.3, stays (name (member_of c.0 c.1)) c.0 c.4, c.5)

    born_here : born' b ≡ d
    born_here = update_same born b d

    on : (q c : ℕ) → Covers born died q c → Covers born' died q c ⊎ (c ≡ b)
    on q c k = dite (ℕ_discrete c b) inr (λ o. inl (subst (λ (i : ℕ). (0 < i) × (i ≤ q) × ((died c ≡ 0) ⊎ (q < died c))) (sym (update_other born b c d o)) k))

    on_all : (q c : ℕ) → Covers born died q c → Covers born' died q c
    on_all q c k = ⊎_elim (λ z. z) (λ e. let z : born c ≡ born b = ap born e in let p = k.0 in absurd (omega arith)) (on q c k)

    fits_new : Fits s name head history born' died life (now (b + 1)) d
    fits_new = record {
      found = λ k a w. ⊎_elim
          (λ c. let same : b ≡ a = one_more b a (sym c.4 ∙ w) in subst (λ (i : ℕ). (t : Bool) × (y : ℕ) × (name (member_of i t) ≡ k) × (chained (life i) t ≡ y + 1) × IsPlaceOf s name (now (b + 1)) y k × Reaches history born' died life d y i (head y)) same
          (c.0, c.1, sym c.3, c.2, seen_stays c.1 k (subst (IsPlaceOf s name (who d) c.1) (sym c.3) (seen c.0 c.1 c.2)), ((b, c.0) ∷ [], (linked c.0 c.1 c.2, chained_stands (life b) c.0 c.1 c.2, inl (refl, ((let z = born_here in omega arith), (let z = born_here in omega arith), inl live))))))
          (λ c. let h = old.found k a (sym c.0 ∙ w) in (h.0, h.1, h.2, h.3, seen_stays h.1 k h.4, reach_on history history born died born' died life life d h.1 (λ i t u. (u, refl)) a (λ t u v. on_all d a v) (head h.1) h.5))
          (is_member (b + 1) k);
      both = λ a y t u w c. ⊎_elim
          (λ k. let same : b ≡ a = one_more b a (sym k.4 ∙ w) in subst (λ (i : ℕ). now (b + 1) (name (member_of i u)) ≡ i + 1) same (marked (b + 1) u y (ap (λ (i : ℕ). chained (life i) u) same ∙ c)))
          (λ k. stays (name (member_of a u)) a (old.both a y t u (sym k.0 ∙ w) c))
          (is_member (b + 1) (name (member_of a t)));
    }

    sound_new : IsSound s name born' died life (now (b + 1)) d
    sound_new a t y c k = dite (ℕ_discrete a b)
        (λ e. let c' : chained (life b) t ≡ y + 1 = ap (λ (i : ℕ). chained (life i) t) (sym e) ∙ c in subst (λ (i : ℕ). (now (b + 1) (name (member_of i t)) ≡ i + 1) × IsPlaceOf s name (now (b + 1)) y (name (member_of i t))) (sym e) (marked (b + 1) t y c', seen_stays y (name (member_of b t)) (seen t y c')))
        (λ o. let h = n.sound d (inr (refl, omega (arith, ap order first))) a t y c (subst (λ (i : ℕ). (0 < i) × (i ≤ d) × ((died a ≡ 0) ⊎ (d < died a))) (update_other born b a d o) k) in (stays (name (member_of a t)) a h.0, seen_stays y (name (member_of a t)) h.1))

    pub names_publish : (A : ℕ → ℕ → Type 0) → Moves (IsKept round read) A s.elements round head history head history born died born' died life life → ((c : ℕ) → born c ≤ d) → NamesRule s round phase name head history born' died life (who' (b + 1)) read
    names_publish A mv borns = record {
      fits = λ q r. dite (ℕ_discrete q d)
          (λ e. subst (λ (i : ℕ). Fits s name head history born' died life (who' (b + 1) i) i) (sym e) (subst (λ (f : ℕ → ℕ). Fits s name head history born' died life f d) (sym (update_same who d (now (b + 1)))) fits_new))
          (λ o. let k = kept q r o in subst (λ (f : ℕ → ℕ). Fits s name head history born' died life f q) (sym (else_ (b + 1) q (low q k))) (fits_on s name name head history head history born died born' died life life (λ _ _ _ _ _. refl) round phase who read (IsKept round read) A mv q k (n.fits q r)));
      sound = λ q r. dite (ℕ_discrete q d)
          (λ e. subst (λ (i : ℕ). IsSound s name born' died life (who' (b + 1) i) i) (sym e) (subst (λ (f : ℕ → ℕ). IsSound s name born' died life f d) (sym (update_same who d (now (b + 1)))) sound_new))
          (λ o. let k = kept q r o in subst (λ (f : ℕ → ℕ). IsSound s name born' died life f q) (sym (else_ (b + 1) q (low q k))) (sound_on s name name head history head history born died born' died life life (λ _ _ _ _ _. refl) round phase who read (IsKept round read) A mv q k (n.fits q r) (n.sound q r)));
      patch = n.patch;
      one = λ a c p q e. dite (ℕ_discrete a b)
          (λ f. dite (ℕ_discrete c b) (λ h. f ∙ sym h) (λ o. absurd (other c o q (sym (ap (λ (i : ℕ). name (member_of i false)) f) ∙ e))))
          (λ k. dite (ℕ_discrete c b) (λ h. absurd (other a k p (sym (e ∙ ap (λ (i : ℕ). name (member_of i false)) h)))) (λ o. n.one a c (was a k p) (was c o q) e));
      calm = n.calm;
      grows = λ k a l w. ap (λ (f : ℕ → ℕ). f k) (update_same who d (now (b + 1))) ∙ stays k a (n.grows k a l (sym (ap (λ (f : ℕ → ℕ). f k) (else_ (b + 1) round (omega arith))) ∙ w));
      either = λ k a l w. inl (ap (λ (f : ℕ → ℕ). f k) (update_same who d (now (b + 1))) ∙ stays k a (n.grows k a (omega (arith, ap order first)) (sym (ap (λ (f : ℕ → ℕ). f k) (else_ (b + 1) round (omega arith))) ∙ w)));
      fresh = λ k z. absurd (cc);
    }
      where
        kept : (q : ℕ) → MayRead round phase read q → q ≢ round + 1 → IsKept round read q
        kept q (inl k) o = k
        kept q (inr k) o = absurd (o k.0)

        was : (c : ℕ) → c ≢ b → IsLiving born' died life c → IsLiving born died life c
        was c o p = (p.0, p.1, p.2, subst (λ (i : ℕ). 0 < i) (update_other born b c d o) p.3, p.4)

        -- another living block has another patch
        other : (c : ℕ) → c ≢ b → IsLiving born' died life c → name (member_of b false) ≡ name (member_of c false) → ⊥
        other c o p e = let k = was c o p in let z = un false x (ap (λ (l : Life). chained l false) at) in
            let y = (n.sound d (inr (refl, omega (arith, ap order first))) c false k.0 (ap (λ (l : Life). chained l false) k.2) (k.3, borns c, inl k.4)).0 in let f = ap (who d) e in omega arith

  -- retirement
  module _ (second : phase ≡ SecondHalf) (was : (t : Bool) (y : ℕ) → chained (life b) t ≡ y + 1 → who d (name (member_of b t)) ≡ b + 1) (leaf : (t c : Bool) (y : ℕ) → chained (life b) t ≡ y + 1 → who d (s.child (name (member_of b t)) c) ≡ 0) where
    abbrev died' : ℕ → ℕ
    died' = update died b d

    old_ : Fits s name head history born died life (who d) d
    old_ = n.fits d (inr (refl, omega (arith, ap order second)))

    -- what is still bisected was so by the same block, which is another
    pub before : (k a : ℕ) → now 0 k ≡ a + 1 → (who d k ≡ a + 1) × (a ≢ b)
    before k a w = ⊎_elim (λ c. let z = c.4 in absurd (omega arith)) (λ c. let o : who d k ≡ a + 1 = sym c.0 ∙ w in let h = old_.found k a o in (o, λ (e : a ≡ b). c.1 h.0 h.1 (ap (λ (i : ℕ). chained (life i) h.0) (sym e) ∙ h.3) (sym h.2 ∙ ap (λ (i : ℕ). name (member_of i h.0)) e))) (is_member 0 k)

    -- and a name that another block bisects stays bisected
    stays_ : (k a : ℕ) → who d k ≡ a + 1 → a ≢ b → now 0 k ≡ a + 1
    stays_ k a w o = ⊎_elim (λ c. let z : who d k ≡ b + 1 = ap (who d) c.3 ∙ was c.0 c.1 c.2 in absurd (o (one_more a b (sym w ∙ z)))) (λ c. c.0 ∙ w) (is_member 0 k)

    -- the place of a name that is still bisected has its block still
    pub seen_left : (y k : ℕ) → (a : ℕ) → who d k ≡ a + 1 → IsPlaceOf s name (who d) y k → IsPlaceOf s name (now 0) y k
    seen_left y k a w (inl t) = inl t
    seen_left y k a w (inr c) = inr (c.0, c.1, c.2, c.3, stays_ (name (member_of c.0 c.1)) c.0 c.4 (λ (e : c.0 ≡ b). parent e), c.5)
      where
        parent : c.0 ≡ b → ⊥
        parent e = let w' : who d (name (member_of b c.1)) ≡ b + 1 = subst (λ (i : ℕ). who d (name (member_of i c.1)) ≡ i + 1) e c.4 in let h = old_.found (name (member_of b c.1)) b w' in
            let z : who d k ≡ 0 = ap (who d) (c.5 ∙ ap (λ (i : ℕ). s.child (name (member_of i c.1)) c.2) e ∙ ap (λ (i : ℕ). s.child i c.2) (sym h.2)) ∙ leaf h.0 c.2 h.1 h.3 in absurd (omega arith)

    on_other : (q c : ℕ) → c ≢ b → Covers born died q c → Covers born died' q c
    on_other q c o k = subst (λ (i : ℕ). (0 < born c) × (born c ≤ q) × ((i ≡ 0) ⊎ (q < i))) (sym (update_other died b c d o)) k

    not_here : Covers born died' d b → ⊥
    not_here k = let z : died' b ≡ round + 1 = update_same died b d in ⊎_elim (λ (e : died' b ≡ 0). omega arith) (λ (l : d < died' b). omega arith) k.2

    fits_left : Fits s name head history born died' life (now 0) d
    fits_left = record {
      found = λ k a w. let o = before k a w in let h = old_.found k a o.0 in (h.0, h.1, h.2, h.3, seen_left h.1 k a o.0 h.4, reach_on history history born died born died' life life d h.1 (λ i t u. (u, refl)) a (λ t u v. on_other d a o.1 v) (head h.1) h.5);
      both = λ a y t u w c. let o = before (name (member_of a t)) a w in stays_ (name (member_of a u)) a (old_.both a y t u o.0 c) o.1;
    }

    sound_left : IsSound s name born died' life (now 0) d
    sound_left a t y c k = let o : a ≢ b = λ (e : a ≡ b). not_here (subst (Covers born died' d) e k) in
        let h = n.sound d (inr (refl, omega (arith, ap order second))) a t y c (subst (λ (i : ℕ). (0 < born a) × (born a ≤ d) × ((i ≡ 0) ⊎ (d < i))) (update_other died b a d o) k) in (stays_ (name (member_of a t)) a h.0 o, seen_left y (name (member_of a t)) a h.0 h.1)

    pub names_retire : (A : ℕ → ℕ → Type 0) → Moves (IsKept round read) A s.elements round head history head history born died born died' life life → NamesRule s round phase name head history born died' life (who' 0) read
    names_retire A mv = record {
      fits = λ q r. dite (ℕ_discrete q d)
          (λ e. subst (λ (i : ℕ). Fits s name head history born died' life (who' 0 i) i) (sym e) (subst (λ (f : ℕ → ℕ). Fits s name head history born died' life f d) (sym (update_same who d (now 0))) fits_left))
          (λ o. let k = kept q r o in subst (λ (f : ℕ → ℕ). Fits s name head history born died' life f q) (sym (else_ 0 q (low q k))) (fits_on s name name head history head history born died born died' life life (λ _ _ _ _ _. refl) round phase who read (IsKept round read) A mv q k (n.fits q r)));
      sound = λ q r. dite (ℕ_discrete q d)
          (λ e. subst (λ (i : ℕ). IsSound s name born died' life (who' 0 i) i) (sym e) (subst (λ (f : ℕ → ℕ). IsSound s name born died' life f d) (sym (update_same who d (now 0))) sound_left))
          (λ o. let k = kept q r o in subst (λ (f : ℕ → ℕ). IsSound s name born died' life f q) (sym (else_ 0 q (low q k))) (sound_on s name name head history head history born died born died' life life (λ _ _ _ _ _. refl) round phase who read (IsKept round read) A mv q k (n.fits q r) (n.sound q r)));
      patch = n.patch;
      one = λ a c p q e. n.one a c (was_living a p) (was_living c q) e;
      calm = λ c y k l. absurd (l.0 second);
      grows = λ k a l w. absurd (omega (arith, ap order second));
      either = λ k a l w. let e = ap (λ (f : ℕ → ℕ). f k) (update_same who d (now 0)) in ⊎_elim (λ c. inr (e ∙ c.4)) (λ c. ⊎_elim (λ u. inl (e ∙ c.0 ∙ u)) (λ u. inr (e ∙ c.0 ∙ u)) (n.either k a l (sym (ap (λ (f : ℕ → ℕ). f k) (else_ 0 round (omega arith))) ∙ w))) (is_member 0 k);
      fresh = λ k z. absurd (cc);
    }
      where
        kept : (q : ℕ) → MayRead round phase read q → q ≢ round + 1 → IsKept round read q
        kept q (inl k) o = k
        kept q (inr k) o = absurd (o k.0)

        was_living : (a : ℕ) → IsLiving born died' life a → IsLiving born died life a
        was_living a p = (p.0, p.1, p.2, p.3, dite (ℕ_discrete a b) (λ e. let z : died' a ≡ d = update_at died b a d e in let y = p.4 in absurd (omega arith)) (λ o. sym (update_other died b a d o) ∙ p.4))
