-- The closure by levels is the least forest.
use Rattle.std.proofs.Common.{◌≡◌, ◌⊎◌, ◌≢◌, ℕ, zero, suc, ◌<◌, ◌≤◌, Bool, true, false, cond, eqb, refl, sym, ap, ◌∙◌, subst, List, [], ◌∷◌, arith, inl, inr, ⊎_elim, eq-eqb, eqb-true}
use Rattle.std.specs.Prelude.{Option, Some, None, option_map}
use Rattle.std.proofs.lemmas.Bool.Decides.{eqb_tells}
use Rattle.std.specs.FinSet.{union}
use Rattle.mesh_names.specs.Names.{Name, parent_of}
use Rattle.mesh_names.specs.Triangles.{Shape, size, level}
use Rattle.mesh_names.specs.Forests.{Names, Has, Within, IsForest}
use Rattle.mesh_names.specs.Partners.{Across, Tells, IsPartner, partner}
use Rattle.mesh_names.specs.Conformity.{HoldsPartners}
use Rattle.mesh_names.specs.LeastForest.{CanHold, IsLeast, grown_by, partner_at, parent_at, closed_below, least_forest, LeastByLevels, LeastIsOne, LeastKeeps}
use Rattle.mesh_names.proofs.Neighbours.{some_inj, none_some}
use Rattle.mesh_names.proofs.Pairs.{partners_pair}
use Rattle.mesh_names.proofs.Conforming.{conforms_by_partners}
use Rattle.mesh_names.proofs.Sets.{union-either, union-left, union-right, within-both, grown-old, grown-new, grown-from}

module _ (mesh : Shape) (x : Across) where
  partner-at : (l : ℕ) (n m : Name) (t : Bool) → level mesh n ≡ l → partner x n.0 n.1 ≡ Some (m, t) → partner_at mesh x l n ≡ Some m
  partner-at l n m t e h = (λ i. cond (eq-eqb (level mesh n) l e i) (option_map (λ (a : Name × Bool). a.0) (h i)) None)

  parent-at : (l : ℕ) (r : ℕ) (b : Bool) (w : List Bool) → level mesh (r, b ∷ w) ≡ l → parent_at mesh l (r, b ∷ w) ≡ Some (r, w)
  parent-at l r b w e = ap (λ (c : Bool). cond c (Some (r, w)) None) (eq-eqb (level mesh (r, b ∷ w)) l e)

  -- what a partner that was added comes from
  pub partner-from : (l : ℕ) (n m : Name) → partner_at mesh x l n ≡ Some m → (level mesh n ≡ l) × ((t : Bool) × (partner x n.0 n.1 ≡ Some (m, t)))
  partner-from l n m e = by (eqb (level mesh n) l) refl (partner x n.0 n.1) refl e
    where
      by : (c : Bool) → eqb (level mesh n) l ≡ c → (o : Option (Name × Bool)) → partner x n.0 n.1 ≡ o → cond c (option_map (λ (a : Name × Bool). a.0) o) None ≡ Some m → (level mesh n ≡ l) × ((t : Bool) × (partner x n.0 n.1 ≡ Some (m, t)))
      by false c o h q = absurd (none_some m q)
      by true c None h q = absurd (none_some m q)
      by true c (Some a) h q = (eqb-true (level mesh n) l c, (a.1, h ∙ (λ i. Some (some_inj a.0 m q i, a.1))))

  pub parent-from : (l : ℕ) (n m : Name) → parent_at mesh l n ≡ Some m → (level mesh n ≡ l) × (m.0 ≡ n.0) × ((b : Bool) × (n.1 ≡ b ∷ m.1))
  parent-from l n m e = by (eqb (level mesh n) l) refl n.1 refl e
    where
      by : (c : Bool) → eqb (level mesh n) l ≡ c → (w : List Bool) → n.1 ≡ w → cond c (option_map (λ (u : List Bool). (n.0, u)) (parent_of w)) None ≡ Some m → (level mesh n ≡ l) × (m.0 ≡ n.0) × ((b : Bool) × (n.1 ≡ b ∷ m.1))
      by false c w h q = absurd (none_some m q)
      by true c [] h q = absurd (none_some m q)
      by true c (b ∷ w) h q = let k = some_inj (n.0, w) m q in (eqb-true (level mesh n) l c, (λ i. (sym k i).0), (b, h ∙ (λ i. b ∷ (k i).1)))

  abbrev with_partners : ℕ → Names → Names
  with_partners l s = grown_by (partner_at mesh x l) s

  abbrev with_parents : ℕ → Names → Names
  with_parents l s = grown_by (parent_at mesh l) s

  -- ---- the closure lies in each forest that holds the set
  within_other : (other : Names) → IsForest mesh other → HoldsPartners x other → (l : ℕ) (s : Names) → Within s other → Within (closed_below mesh x l s) other
  unfolding closed_below
  within_other other forest holds zero s h = h
  within_other other forest holds (suc l) s h = within_other other forest holds l (with_parents l (with_partners l s)) (λ n k. ⊎_elim
      (λ a. partners n a)
      (λ (p : (q : Name) × Has (with_partners l s) q × (parent_at mesh l q ≡ Some n)).
      let from = parent-from l p.0 n p.2 in
      let at : Has other (n.0, from.2.0 ∷ n.1) = subst (λ (y : Name). Has other y) (λ i. (sym from.1 i, from.2.1 i)) (partners p.0 p.1) in
      forest.closed n.0 from.2.0 n.1 at)
      (grown-from (parent_at mesh l) (with_partners l s) n k))
    where
      partners : Within (with_partners l s) other
      partners n k = ⊎_elim
          (λ a. h n a)
          (λ (p : (q : Name) × Has s q × (partner_at mesh x l q ≡ Some n)).
          let from = partner-from l p.0 n p.2 in
          holds p.0.0 p.0.1 n from.1.0 (h p.0 p.1) from.1.1)
          (grown-from (partner_at mesh x l) s n k)

  within_closed : (l : ℕ) (s : Names) → Within s (closed_below mesh x l s)
  unfolding closed_below
  within_closed zero s n h = h
  within_closed (suc l) s n h = within_closed l (with_parents l (with_partners l s)) n (grown-old (parent_at mesh l) (with_partners l s) n (grown-old (partner_at mesh x l) s n h))

  -- ---- the levels from l on are done
  record Done (l : ℕ) (s : Names) : Type 0 where
    rooted : (n : Name) → Has s n → n.0 < size mesh
    shallow : (n : Name) → Has s n → level mesh n ≤ 23
    parents : (r : ℕ) (b : Bool) (w : List Bool) → l ≤ level mesh (r, b ∷ w) → Has s (r, b ∷ w) → Has s (r, w)
    partners : (n m : Name) (t : Bool) → l ≤ level mesh n → Has s n → partner x n.0 n.1 ≡ Some (m, t) → Has s m

  module _ (tells : Tells mesh x) where
    module _ (l : ℕ) (s : Names) (done : Done (suc l) s) where
      abbrev first : Names
      first = with_partners l s

      abbrev second : Names
      second = with_parents l (with_partners l s)

      abbrev FromPartner : Name → Type 0
      FromPartner n = (q : Name) × Has s q × (level mesh q ≡ l) × IsPartner mesh x q n

      in_first : (n : Name) → Has first n → Has s n ⊎ FromPartner n
      in_first n h = ⊎_elim
          (λ a. inl a)
          (λ (p : (q : Name) × Has s q × (partner_at mesh x l q ≡ Some n)).
          let from = partner-from l p.0 n p.2 in
          inr (p.0, p.1, from.0, partners_pair mesh x tells p.0 n from.1.0 (done.rooted p.0 p.1) from.1.1))
          (grown-from (partner_at mesh x l) s n h)

      first_rooted : (n : Name) → Has first n → n.0 < size mesh
      first_rooted n h = ⊎_elim (λ a. done.rooted n a) (λ (p : FromPartner n). p.3.rooted) (in_first n h)

      first_shallow : (n : Name) → Has first n → level mesh n ≤ 23
      first_shallow n h = ⊎_elim (λ a. done.shallow n a) (λ (p : FromPartner n). let low = done.shallow p.0 p.1 in omega (arith, low, p.3.level)) (in_first n h)

      in_second : (n : Name) → Has second n → Has first n ⊎ ((b : Bool) × Has first (n.0, b ∷ n.1) × (level mesh (n.0, b ∷ n.1) ≡ l))
      in_second n h = ⊎_elim
          (λ a. inl a)
          (λ (p : (q : Name) × Has first q × (parent_at mesh l q ≡ Some n)).
          let from = parent-from l p.0 n p.2 in
          let same : p.0 ≡ (n.0, from.2.0 ∷ n.1) = λ i. (sym from.1 i, from.2.1 i) in
          inr (from.2.0, subst (λ (y : Name). Has first y) same p.1, ap (λ (y : Name). level mesh y) (sym same) ∙ from.0))
          (grown-from (parent_at mesh l) first n h)

      -- a member of this level or above was there before the parents
      was_first : (n : Name) → l ≤ level mesh n → Has second n → Has first n
      was_first n low h = ⊎_elim (λ a. a) (λ (p : (b : Bool) × Has first (n.0, b ∷ n.1) × (level mesh (n.0, b ∷ n.1) ≡ l)). absurd (omega (arith, low, p.2))) (in_second n h)

      to_second : (n : Name) → Has s n → Has second n
      to_second n h = grown-old (parent_at mesh l) first n (grown-old (partner_at mesh x l) s n h)

      above_was : (n : Name) → suc l ≤ level mesh n → Has first n → Has s n
      above_was n low h = ⊎_elim (λ a. a) (λ (p : FromPartner n). absurd (omega (arith, low, p.2, p.3.level))) (in_first n h)

      at_or_above : (n : Name) → l ≤ level mesh n → (level mesh n ≡ l) ⊎ (suc l ≤ level mesh n)
      at_or_above n low = ⊎_elim (λ (p : (eqb (level mesh n) l ≡ true) × (level mesh n ≡ l)). inl p.1) (λ (p : (eqb (level mesh n) l ≡ false) × (level mesh n ≢ l)). inr (omega (arith, low, p.1))) (eqb_tells (level mesh n) l)

      next_parents : (r : ℕ) (b : Bool) (w : List Bool) → l ≤ level mesh (r, b ∷ w) → Has second (r, b ∷ w) → Has second (r, w)
      next_parents r b w low h =
          let k = was_first (r, b ∷ w) low h in
          ⊎_elim
          (λ e. grown-new (parent_at mesh l) first (r, b ∷ w) (r, w) k (parent-at l r b w e))
          (λ up. to_second (r, w) (done.parents r b w up (above_was (r, b ∷ w) up k)))
          (at_or_above (r, b ∷ w) low)

      next_partners : (n m : Name) (t : Bool) → l ≤ level mesh n → Has second n → partner x n.0 n.1 ≡ Some (m, t) → Has second m
      next_partners n m t low h e =
          let k = was_first n low h in
          ⊎_elim
          (λ at. ⊎_elim
          (λ a. grown-old (parent_at mesh l) first m (grown-new (partner_at mesh x l) s n m a (partner-at l n m t at e)))
          (λ (p : FromPartner n).
          let same : p.0 ≡ m = (λ i. (some_inj (p.0, p.3.back.0) (m, t) (sym p.3.back.1 ∙ e) i).0) in
          to_second m (subst (λ (y : Name). Has s y) same p.1))
          (in_first n k))
          (λ up. to_second m (done.partners n m t up (above_was n up k) e))
          (at_or_above n low)

      next : Done l second
      next = record {
        rooted = λ n h. ⊎_elim (λ a. first_rooted n a) (λ (p : (b : Bool) × Has first (n.0, b ∷ n.1) × (level mesh (n.0, b ∷ n.1) ≡ l)). first_rooted (n.0, p.0 ∷ n.1) p.1) (in_second n h);
        shallow = λ n h. ⊎_elim (λ a. first_shallow n a) (λ (p : (b : Bool) × Has first (n.0, b ∷ n.1) × (level mesh (n.0, b ∷ n.1) ≡ l)). let low = first_shallow (n.0, p.0 ∷ n.1) p.1 in omega (arith, low)) (in_second n h);
        parents = next_parents;
        partners = next_partners;
      }

    all_done : (l : ℕ) (s : Names) → Done l s → Done 0 (closed_below mesh x l s)
    unfolding closed_below
    all_done zero s d = d
    all_done (suc l) s d = all_done l (with_parents l (with_partners l s)) (next l s d)

    start : (s : Names) → CanHold mesh s → Done 24 s
    start s can = record {
      rooted = can.rooted;
      shallow = can.shallow;
      parents = λ r b w up h. let low = can.shallow (r, b ∷ w) h in absurd (omega (arith, up, low));
      partners = λ n m t up h e. let low = can.shallow n h in absurd (omega (arith, up, low));
    }

    pub union-can : (old needs : Names) → CanHold mesh old → CanHold mesh needs → CanHold mesh (union old needs)
    union-can old needs a b = record {
      rooted = λ n h. ⊎_elim (λ p. a.rooted n p) (λ q. b.rooted n q) (union-either old needs n h);
      shallow = λ n h. ⊎_elim (λ p. a.shallow n p) (λ q. b.shallow n q) (union-either old needs n h);
    }

    closed_forest : (s : Names) → CanHold mesh s → IsForest mesh (closed_below mesh x 24 s)
    closed_forest s can =
        let done = all_done 24 s (start s can) in
        record { rooted = done.rooted; shallow = done.shallow; closed = λ r b w h. done.parents r b w (omega arith) h }

    closed_holds : (s : Names) → CanHold mesh s → HoldsPartners x (closed_below mesh x 24 s)
    closed_holds s can r w m t h e = let done = all_done 24 s (start s can) in done.partners (r, w) m t (omega arith) h e

    least : (old needs : Names) → CanHold mesh old → CanHold mesh needs → IsLeast mesh old needs (least_forest mesh x old needs)
    least old needs a b =
        let s : Names = union old needs in
        let can = union-can old needs a b in
        let forest = closed_forest s can in
        record {
          forest = forest;
          conforms = (conforms_by_partners mesh x tells (closed_below mesh x 24 s) forest).1 (closed_holds s can);
          holds_old = λ n h. within_closed 24 s n (union-left old needs n h);
          holds_needs = λ n h. within_closed 24 s n (union-right old needs n h);
          least = λ other f c ho hn. within_other other f ((conforms_by_partners mesh x tells other f).0 c) 24 s (λ n h. ⊎_elim (λ p. ho n p) (λ q. hn n q) (union-either old needs n h));
        }

pub least_by_levels : LeastByLevels
least_by_levels mesh x tells old needs a b = least mesh x tells old needs a b

pub least-same : (mesh : Shape) (old needs s t : Names) → IsLeast mesh old needs s → IsLeast mesh old needs t → s ≡ t
least-same mesh old needs s t hs ht = within-both s t (hs.least t ht.forest ht.conforms ht.holds_old ht.holds_needs) (ht.least s hs.forest hs.conforms hs.holds_old hs.holds_needs)

pub least_is_one : LeastIsOne
least_is_one mesh x tells old needs a b =
    let new : Names = least_forest mesh x old needs in
    let is = least mesh x tells old needs a b in
    (new, is, λ other h. least-same mesh old needs other new h is)

pub least_keeps : LeastKeeps
least_keeps mesh old needs forest conforms within =
    let itself : IsLeast mesh old needs old = record { forest = forest; conforms = conforms; holds_old = λ n h. h; holds_needs = within; least = λ other f c holds_old holds_needs. holds_old } in
    (itself, λ new is. least-same mesh old needs new old is itself)
