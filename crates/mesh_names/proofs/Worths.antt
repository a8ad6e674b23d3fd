-- Where steps end, told at once: what a name is worth is one more than how often it may be coarsened once it is a leaf. Steps in any order end at the members that are worth nothing.
use Rattle.std.proofs.Common.{◌≡◌, ◌⊎◌, ◌≢◌, ℕ, zero, suc, ◌+◌, ◌-◌, ◌<◌, ◌≤◌, min, ℤ, Bool, true, false, cond, eqb, ◌&&◌, true≢false, refl, sym, ap, ◌∙◌, subst, List, [], ◌∷◌, arith, inl, inr, ⊎_elim, eq-eqb, eqb-true, ne_eqb}
use Rattle.std.specs.Prelude.{Option, Some, None}
use Rattle.std.specs.Int.{is_negative}
use Rattle.std.proofs.lemmas.Bool.Decides.{eqb_tells}
use Rattle.std.specs.FinSet.{contains, retain}
use Rattle.mesh_names.specs.Names.{Name}
use Rattle.mesh_names.specs.Triangles.{Shape, size, level}
use Rattle.mesh_names.specs.Forests.{Names, Has, Within, IsForest}
use Rattle.mesh_names.specs.Partners.{Across, Tells, InPatch, partner}
use Rattle.mesh_names.specs.Conformity.{HoldsPartners}
use Rattle.mesh_names.specs.Coarsening.{MarkedForest, child_at, CanCoarsen, joined_mark, after_step, after_steps, AreSteps, HasEnded, allowance}
use Rattle.mesh_names.proofs.Pairs.{partners_pair}
use Rattle.mesh_names.proofs.Sets.{is_or_not, both_sides, within-both}
use Rattle.mesh_names.proofs.Booleans.{and_both, and-both, not_true, retained}
use Rattle.mesh_names.proofs.Steps.{joined-allowance, negative-allowance, allowance-negative, patch_or_not, was_there, stays_there, mark-in, mark-out, patch-back, patch-trans, next_forest, next_holds}

-- what a member is worth by its children alone
abbrev pub own_worth : (Name → ℕ) → Name → ℕ
own_worth g n = min (g (child_at n false)) (g (child_at n true)) - 1

-- nothing, where the partner stays
abbrev pub with_partner : (Name → ℕ) → Option (Name × Bool) → ℕ → ℕ
with_partner g None own = own
with_partner g (Some m) own = cond (eqb (own_worth g m.0) 0) 0 own

-- one more than how often n may be coarsened once it is a leaf, and 0 where it never becomes one; k levels below n are looked at
unfoldable pub worth : Across → MarkedForest → ℕ → Name → ℕ
worth x s zero n = suc (allowance (s.marks n))
worth x s (suc k) n = cond (contains s.forest n) (with_partner (worth x s k) (partner x n.0 n.1) (own_worth (worth x s k) n)) (suc (allowance (s.marks n)))

-- the members that never become leaves
abbrev pub kept : Across → MarkedForest → Names
kept x s = retain s.forest (λ n. eqb (worth x s 24 n) 0)

both-large : (a b : ℕ) → 0 < min a b - 1 → (1 < a) × (1 < b)
both-large a b h = (omega (arith, h), omega (arith, h))

-- own worth, where each child is a leaf that may be kept
own-sum : (a b : ℕ) → 0 < a → 0 < b → min (suc a) (suc b) - 1 ≡ min a b
own-sum a b h k = omega arith

module _ (mesh : Shape) (x : Across) (tells : Tells mesh x) (s : MarkedForest) (forest : IsForest mesh s.forest) (holds : HoldsPartners x s.forest) where
  abbrev inner : ℕ → Name → ℕ
  inner k n = with_partner (worth x s k) (partner x n.0 n.1) (own_worth (worth x s k) n)

  worth-member : (k : ℕ) (n : Name) → Has s.forest n → worth x s (suc k) n ≡ inner k n
  unfolding worth
  worth-member k n h = ap (λ (c : Bool). cond c (inner k n) (suc (allowance (s.marks n)))) h

  worth-leaf : (k : ℕ) (n : Name) → contains s.forest n ≡ false → worth x s k n ≡ suc (allowance (s.marks n))
  unfolding worth
  worth-leaf zero n h = refl
  worth-leaf (suc k) n h = ap (λ (c : Bool). cond c (inner k n) (suc (allowance (s.marks n)))) h

  worth-deep : (n : Name) → worth x s 0 n ≡ suc (allowance (s.marks n))
  unfolding worth
  worth-deep n = refl

  -- ---- enough levels are enough
  abbrev Settled : ℕ → Type 0
  Settled k = (q : Name) → 24 ≤ level mesh q + k → worth x s (suc k) q ≡ worth x s k q

  own_settled : (k : ℕ) → Settled k → (q : Name) → 24 ≤ level mesh q + suc k → own_worth (worth x s (suc k)) q ≡ own_worth (worth x s k) q
  own_settled k ih q h = λ i. min (ih (child_at q false) (omega (arith, h)) i) (ih (child_at q true) (omega (arith, h)) i) - 1

  inner_settled : (k : ℕ) → Settled k → (n : Name) → n.0 < size mesh → 24 ≤ level mesh n + suc k → inner (suc k) n ≡ inner k n
  inner_settled k ih n hn h = by (partner x n.0 n.1) refl
    where
      by : (o : Option (Name × Bool)) → partner x n.0 n.1 ≡ o → with_partner (worth x s (suc k)) o (own_worth (worth x s (suc k)) n) ≡ with_partner (worth x s k) o (own_worth (worth x s k) n)
      by None e = own_settled k ih n h
      by (Some m) e =
          let p = partners_pair mesh x tells n m.0 m.1 hn e in
          λ i. cond (eqb (own_settled k ih m.0 (omega (arith, h, p.level)) i) 0) 0 (own_settled k ih n h i)

  settled : (k : ℕ) → Settled k
  settled zero q h = ⊎_elim
      (λ ins. let low = forest.shallow q ins in absurd (omega (arith, h, low)))
      (λ out. worth-leaf 1 q out ∙ sym (worth-leaf 0 q out))
      (is_or_not (contains s.forest q))
  settled (suc k) q h = ⊎_elim
      (λ ins. worth-member (suc k) q ins ∙ inner_settled k (settled k) q (forest.rooted q ins) h ∙ sym (worth-member k q ins))
      (λ out. worth-leaf (suc (suc k)) q out ∙ sym (worth-leaf (suc k) q out))
      (is_or_not (contains s.forest q))

  abbrev W : Name → ℕ
  W n = worth x s 24 n

  abbrev own : Name → ℕ
  own n = own_worth (worth x s 24) n

  W-member : (n : Name) → Has s.forest n → W n ≡ with_partner (worth x s 24) (partner x n.0 n.1) (own n)
  W-member n h = worth-member 23 n h ∙ sym (inner_settled 23 (settled 23) n (forest.rooted n h) (omega arith))

  W-leaf : (n : Name) → contains s.forest n ≡ false → W n ≡ suc (allowance (s.marks n))
  W-leaf n h = worth-leaf 24 n h

  -- ---- what the worth of a member says of its patch
  with_partner-small : (o : Option (Name × Bool)) (own : ℕ) → with_partner (worth x s 24) o own ≤ own
  with_partner-small None a = omega arith
  with_partner-small (Some m) a = by (eqb (own_worth (worth x s 24) m.0) 0)
    where
      by : (c : Bool) → cond c 0 a ≤ a
      by true = omega arith
      by false = omega arith

  with_partner-large : (o : Option (Name × Bool)) (a : ℕ) → 0 < with_partner (worth x s 24) o a → (m : Name) (t : Bool) → o ≡ Some (m, t) → 0 < own m
  with_partner-large o a h m t e = by (eqb (own m) 0) refl (subst (λ (y : Option (Name × Bool)). 0 < with_partner (worth x s 24) y a) e h)
    where
      by : (c : Bool) → eqb (own m) 0 ≡ c → 0 < cond c 0 a → 0 < own m
      by true e h = absurd (omega (arith, h))
      by false e h = ⊎_elim (λ (p : (eqb (own m) 0 ≡ true) × (own m ≡ 0)). absurd (true≢false (sym p.0 ∙ e))) (λ (p : (eqb (own m) 0 ≡ false) × (own m ≢ 0)). omega (arith, p.1)) (eqb_tells (own m) 0)

  -- a worth above 0: own worths above 0 all over the patch
  patch_large : (n : Name) → Has s.forest n → 0 < W n → (q : Name) → InPatch x n q → 0 < own q
  patch_large n h w q k =
      let up : 0 < with_partner (worth x s 24) (partner x n.0 n.1) (own n) = subst (λ (y : ℕ). 0 < y) (W-member n h) w in
      ⊎_elim
      (λ (e : q ≡ n). let small = with_partner-small (partner x n.0 n.1) (own n) in let l : 0 < own n = omega (arith, up, small) in subst (λ (y : Name). 0 < own y) (sym e) l)
      (λ (m : (t : Bool) × (partner x n.0 n.1 ≡ Some (q, t))). with_partner-large (partner x n.0 n.1) (own n) up q m.0 m.1)
      k

  -- and back
  patch-large : (n : Name) → Has s.forest n → ((q : Name) → InPatch x n q → 0 < own q) → W n ≡ own n
  patch-large n h f = W-member n h ∙ by (partner x n.0 n.1) refl
    where
      by : (o : Option (Name × Bool)) → partner x n.0 n.1 ≡ o → with_partner (worth x s 24) o (own n) ≡ own n
      by None e = refl
      by (Some m) e =
          let l = f m.0 (inr (m.1, e)) in
          ap (λ (c : Bool). cond c 0 (own n)) (ne_eqb (own m.0) 0 (λ q. omega (arith, l, q)))

  patch_members : (n : Name) → Has s.forest n → (q : Name) → InPatch x n q → Has s.forest q
  patch_members n h q k = ⊎_elim (λ (e : q ≡ n). subst (λ (y : Name). Has s.forest y) (sym e) h) (λ (m : (t : Bool) × (partner x n.0 n.1 ≡ Some (q, t))). holds n.0 n.1 q m.0 h m.1) k

  -- ---- the invariant of steps
  pub record Inv (now : MarkedForest) : Type 0 where
    pub within : Within now.forest s.forest
    pub out : (n : Name) → contains now.forest n ≡ false → W n ≡ suc (allowance (now.marks n))
    pub stays : IsForest mesh now.forest
    pub partners : HoldsPartners x now.forest

  pub inv_start : Inv s
  inv_start = record { within = λ n h. h; out = W-leaf; stays = forest; partners = holds }

  module _ (now : MarkedForest) (inv : Inv now) (p : Name) (hp : CanCoarsen x now p) where
    own-is : (q : Name) → InPatch x p q → own q ≡ suc (allowance (joined_mark (now.marks (child_at q false)) (now.marks (child_at q true))))
    own-is q k =
        let l = hp q k in
        let a = now.marks (child_at q false) in
        let b = now.marks (child_at q true) in
        (λ i. min (inv.out (child_at q false) (l.leaves false) i) (inv.out (child_at q true) (l.leaves true) i) - 1)
        ∙ own-sum (allowance a) (allowance b) (negative-allowance a (l.below false)) (negative-allowance b (l.below true))
        ∙ sym (joined-allowance a b (l.below false) (l.below true))

    pub next_out : (n : Name) → contains (after_step x p now).forest n ≡ false → W n ≡ suc (allowance ((after_step x p now).marks n))
    next_out n h = ⊎_elim
        (λ (k : InPatch x p n).
        let rp = inv.stays.rooted p (hp p (inl refl)).member in
        let large : (q : Name) → InPatch x n q → 0 < own q = λ q j. let e = own-is q (patch-trans x mesh tells p n q rp k j) in omega (arith, e) in
        patch-large n (inv.within n (hp n k).member) large ∙ own-is n k ∙ ap (λ (z : ℤ). suc (allowance z)) (sym (mark-in x now p n k)))
        (λ (k : InPatch x p n → ⊥).
        let was : contains now.forest n ≡ false = not_true (contains now.forest n) (λ e. both_sides (contains (after_step x p now).forest n) (stays_there x now p n e k) h) in
        inv.out n was ∙ ap (λ (z : ℤ). suc (allowance z)) (sym (mark-out x now p n k)))
        (patch_or_not x p n)

    inv_next : Inv (after_step x p now)
    inv_next = record {
      within = λ n h. inv.within n (was_there x now p n h).0;
      out = next_out;
      stays = next_forest x mesh tells now inv.stays inv.partners p hp;
      partners = next_holds x mesh tells now inv.stays inv.partners p hp;
    }

  pub inv_after : (ps : List Name) (now : MarkedForest) → Inv now → AreSteps x ps now → Inv (after_steps x ps now)
  inv_after [] now inv h = inv
  inv_after (p ∷ ps) now inv h = inv_after ps (after_step x p now) (inv_next now inv p h.0) h.1

  -- ---- the end
  module _ (now : MarkedForest) (inv : Inv now) (end : HasEnded x now) where
    -- a child of a member that could go is a leaf with a mark below 0
    child_free : (k : ℕ) → ((q : Name) → 24 ≤ level mesh q + k → Has now.forest q → W q ≡ 0) → (c : Name) → 24 ≤ level mesh c + k → 1 < W c → (contains now.forest c ≡ false) × (is_negative (now.marks c) ≡ true)
    child_free k ih c h large =
        let out : contains now.forest c ≡ false = not_true (contains now.forest c) (λ ins. let z = ih c h ins in omega (arith, large, z)) in
        let e = inv.out c out in
        (out, allowance-negative (now.marks c) (omega (arith, large, e)))

    ended : (k : ℕ) (n : Name) → 24 ≤ level mesh n + k → Has now.forest n → W n ≡ 0
    ended zero n h ins = let low = forest.shallow n (inv.within n ins) in absurd (omega (arith, h, low))
    ended (suc k) n h ins = ⊎_elim
        (λ (z : (eqb (W n) 0 ≡ true) × (W n ≡ 0)). z.1)
        (λ (z : (eqb (W n) 0 ≡ false) × (W n ≢ 0)). absurd (end n (can (λ q l m. ended k q l m) (omega (arith, z.1)))))
        (eqb_tells (W n) 0)
      where
        can : ((q : Name) → 24 ≤ level mesh q + k → Has now.forest q → W q ≡ 0) → 0 < W n → CanCoarsen x now n
        can ih large q j =
            let hn = inv.within n ins in
            let own_q = patch_large n hn large q j in
            let both = both-large (worth x s 24 (child_at q false)) (worth x s 24 (child_at q true)) own_q in
            let same : level mesh q ≡ level mesh n = ⊎_elim (λ (e : q ≡ n). ap (λ (y : Name). level mesh y) e) (λ (m : (t : Bool) × (partner x n.0 n.1 ≡ Some (q, t))). (partners_pair mesh x tells n q m.0 (forest.rooted n hn) m.1).level) j in
            let f = child_free k ih (child_at q false) (omega (arith, h, same)) both.0 in
            let t = child_free k ih (child_at q true) (omega (arith, h, same)) both.1 in
            record {
              member = ⊎_elim (λ (e : q ≡ n). subst (λ (y : Name). Has now.forest y) (sym e) ins) (λ (m : (t : Bool) × (partner x n.0 n.1 ≡ Some (q, t))). inv.partners n.0 n.1 q m.0 ins m.1) j;
              leaves = λ b. side (λ b. contains now.forest (child_at q b) ≡ false) f.0 t.0 b;
              below = λ b. side (λ b. is_negative (now.marks (child_at q b)) ≡ true) f.1 t.1 b;
            }
          where
            side : (P : Bool → Type 0) → P false → P true → (b : Bool) → P b
            side P f t false = f
            side P f t true = t

    kept-is : (n : Name) → contains (kept x s) n ≡ (contains s.forest n && eqb (W n) 0)
    kept-is n = retained s.forest (λ y. eqb (W y) 0) n

    to_kept : Within now.forest (kept x s)
    to_kept n h = kept-is n ∙ and-both (contains s.forest n) (eqb (W n) 0) (inv.within n h) (eq-eqb (W n) 0 (ended 24 n (omega arith) h))

    from_kept : Within (kept x s) now.forest
    from_kept n h =
        let b = and_both (contains s.forest n) (eqb (W n) 0) (sym (kept-is n) ∙ h) in
        let zero_is = eqb-true (W n) 0 b.1 in
        ⊎_elim (λ ins. ins) (λ out. let e = inv.out n out in absurd (omega (arith, zero_is, e))) (is_or_not (contains now.forest n))

    pub end_is : now.forest ≡ kept x s
    end_is = within-both now.forest (kept x s) to_kept from_kept

  -- ---- the end is a conforming forest
  pub kept_both : (n : Name) → Has (kept x s) n → Has s.forest n × (W n ≡ 0)
  kept_both n h = let b = and_both (contains s.forest n) (eqb (W n) 0) (sym (retained s.forest (λ y. eqb (W y) 0) n) ∙ h) in (b.0, eqb-true (W n) 0 b.1)

  both-kept : (n : Name) → Has s.forest n → W n ≡ 0 → Has (kept x s) n
  both-kept n h e = retained s.forest (λ y. eqb (W y) 0) n ∙ and-both (contains s.forest n) (eqb (W n) 0) h (eq-eqb (W n) 0 e)

  zero_or_not : (a : ℕ) → (a ≡ 0) ⊎ (0 < a)
  zero_or_not zero = inl refl
  zero_or_not (suc a) = inr (omega arith)

  parent_kept : (r : ℕ) (b : Bool) (w : List Bool) → Has (kept x s) (r, b ∷ w) → Has (kept x s) (r, w)
  parent_kept r b w h =
      let k = kept_both (r, b ∷ w) h in
      let up = forest.closed r b w k.0 in
      both-kept (r, w) up (⊎_elim (λ z. z) (λ l.
      let o = patch_large (r, w) up l (r, w) (inl refl) in
      let both = both-large (worth x s 24 (r, false ∷ w)) (worth x s 24 (r, true ∷ w)) o in
      absurd (one b both k.1))
      (zero_or_not (W (r, w))))
    where
      one : (b : Bool) → (1 < W (r, false ∷ w)) × (1 < W (r, true ∷ w)) → W (r, b ∷ w) ≡ 0 → ⊥
      one false l e = omega (arith, l.0, e)
      one true l e = omega (arith, l.1, e)

  pub partner_kept : HoldsPartners x (kept x s)
  partner_kept r w m t h e =
      let k = kept_both (r, w) h in
      let hm = holds r w m t k.0 e in
      both-kept m hm (⊎_elim (λ z. z) (λ l.
      let large : (q : Name) → InPatch x (r, w) q → 0 < own q = λ q j. patch_large m hm l q (patch-trans x mesh tells m (r, w) q (forest.rooted m hm) (patch-back x mesh tells (r, w) m (forest.rooted (r, w) k.0) (inr (t, e))) j) in
      let o = large (r, w) (inl refl) in
      let is = patch-large (r, w) k.0 large in
      absurd (omega (arith, o, is, k.1)))
      (zero_or_not (W m)))

  pub kept_forest : IsForest mesh (kept x s)
  kept_forest = record {
    rooted = λ n h. forest.rooted n (kept_both n h).0;
    shallow = λ n h. forest.shallow n (kept_both n h).0;
    closed = parent_kept;
  }

  -- ---- marks of -1 and above
  module _ (once : (n : Name) → allowance (s.marks n) ≤ 1) where
    worth-two : (k : ℕ) (n : Name) → worth x s k n ≤ 2
    worth-two zero n = let l = once n in let e = worth-deep n in omega (arith, l, e)
    worth-two (suc k) n = ⊎_elim
        (λ ins. let e = worth-member k n ins in let a = worth-two k (child_at n false) in let l = small k (partner x n.0 n.1) (own_worth (worth x s k) n) in omega (arith, e, a, l))
        (λ out. let e = worth-leaf (suc k) n out in let l = once n in omega (arith, e, l))
        (is_or_not (contains s.forest n))
      where
        small : (k : ℕ) (o : Option (Name × Bool)) (a : ℕ) → with_partner (worth x s k) o a ≤ a
        small k None a = omega arith
        small k (Some m) a = by (eqb (own_worth (worth x s k) m.0) 0)
          where
            by : (c : Bool) → cond c 0 a ≤ a
            by true = omega arith
            by false = omega arith

    member-one : (n : Name) → Has s.forest n → W n ≤ 1
    member-one n h = let e = W-member n h in let a = worth-two 24 (child_at n false) in let l = with_partner-small (partner x n.0 n.1) (own n) in omega (arith, e, a, l)

    free_child : (c : Name) → 1 < W c → (contains s.forest c ≡ false) × (is_negative (s.marks c) ≡ true)
    free_child c h =
        let out : contains s.forest c ≡ false = not_true (contains s.forest c) (λ ins. let l = member-one c ins in omega (arith, h, l)) in
        let e = W-leaf c out in
        (out, allowance-negative (s.marks c) (omega (arith, h, e)))

    pub gone_can : (n : Name) → Has s.forest n → contains (kept x s) n ≡ false → CanCoarsen x s n
    gone_can n hn out q j =
        let large : 0 < W n = ⊎_elim (λ z. absurd (both_sides (contains (kept x s) n) (both-kept n hn z) out)) (λ l. l) (zero_or_not (W n)) in
        let both = both-large (worth x s 24 (child_at q false)) (worth x s 24 (child_at q true)) (patch_large n hn large q j) in
        let f = free_child (child_at q false) both.0 in
        let t = free_child (child_at q true) both.1 in
        record {
          member = patch_members n hn q j;
          leaves = λ b. side (λ b. contains s.forest (child_at q b) ≡ false) f.0 t.0 b;
          below = λ b. side (λ b. is_negative (s.marks (child_at q b)) ≡ true) f.1 t.1 b;
        }
      where
        side : (P : Bool → Type 0) → P false → P true → (b : Bool) → P b
        side P f t false = f
        side P f t true = t

  pub can_gone : (n : Name) → CanCoarsen x s n → contains (kept x s) n ≡ false
  can_gone n hn = not_true (contains (kept x s) n) (λ ins.
      let k = kept_both n ins in
      let gone : contains (after_step x n s).forest n ≡ false = not_true (contains (after_step x n s).forest n) (λ e. (was_there x s n n e).1 (inl refl)) in
      let e = next_out s inv_start n hn n gone in
      omega (arith, k.1, e))
