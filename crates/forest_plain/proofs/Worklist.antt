-- The least forest by a list of names that are still to be added.
use Rattle.std.proofs.Common.{◌≡◌, ◌⊎◌, ℕ, zero, suc, ◌+◌, ◌-◌, ◌*◌, ◌<◌, ◌≤◌, Bool, true, false, cond, not, ◌&&◌, refl, sym, ap, ◌∙◌, subst, List, [], ◌∷◌, ◌++◌, length, arith, inl, inr, ⊎_elim, length-append, append-nil}
use Rattle.std.specs.Prelude.{Option, Some, None, option_map, option_to_list}
use Rattle.std.specs.FinSet.{contains, insert, remove, from_list, len, items, empty, contains-remove, contains-empty, len-insert, len-remove, len-empty}
use Rattle.mesh_names.specs.Names.{Name, name_cmp, name_eq, parent_of}
use Rattle.mesh_names.specs.Order.{name_cmp_total}
use Rattle.mesh_names.specs.Triangles.{Shape, size, level}
use Rattle.mesh_names.specs.Forests.{Names, Has, Within, IsForest}
use Rattle.mesh_names.specs.Partners.{Across, Tells, partner}
use Rattle.mesh_names.specs.Conformity.{HoldsPartners}
use Rattle.mesh_names.specs.LeastForest.{CanHold, IsLeast, least_forest}
use Rattle.forest_plain.specs.Closing.{names_above}
use Rattle.mesh_names.proofs.Conforming.{conforms_by_partners}
use Rattle.mesh_names.proofs.Closing.{least_by_levels}
use Rattle.mesh_names.proofs.Sets.{In, is_or_not, both_sides, has-in, in-has, has-item, item-has, in-append, in-first, in-second, tied-same, same-tied, within-both}
use Rattle.mesh_names.proofs.Inserting.{has-insert, new-insert, insert-either}
use Rattle.mesh_names.proofs.Booleans.{and_both, and-both, not_true, not-true, true-not}

-- ---- a set within another is no longer
removed : (f : Names) (k q : Name) → contains (remove f k) q ≡ (not (name_eq q k) && contains f q)
removed f k q = contains-remove name_cmp_total f k q

no_items : (s : Names) → items s ≡ [] → s ≡ empty
no_items s e = within-both s empty (λ q h. absurd (subst (λ (ks : List Name). In q ks) e (has-item s q h))) (λ q h. absurd (both_sides (contains (empty {R = name_cmp}) q) h (contains-empty name_cmp q)))

remove-within : (s t : Names) (k : Name) → Within s t → Within (remove s k) (remove t k)
remove-within s t k w q h =
    let b = and_both (not (name_eq q k)) (contains s q) (sym (removed s k q) ∙ h) in
    removed t k q ∙ and-both (not (name_eq q k)) (contains t q) b.0 (w q b.1)

has-len : (s : Names) (k : Name) → Has s k → len (remove s k) ≡ len s - 1
has-len s k h = len-remove name_cmp_total s k ∙ ap (λ (c : Bool). cond c (len s - 1) (len s)) h

some_len : (s : Names) (k : Name) → Has s k → 0 < len s
some_len s k h = by (len (insert (remove s k) k)) refl
  where
    back : insert (remove s k) k ≡ s
    back = within-both (insert (remove s k) k) s
        (λ q i. ⊎_elim (λ (e : q ≡ k). subst (λ (y : Name). Has s y) (sym e) h) (λ j. (and_both (not (name_eq q k)) (contains s q) (sym (removed s k q) ∙ j)).1) (insert-either (remove s k) k q i))
        (λ q i. ⊎_elim
        (λ e. subst (λ (y : Name). Has (insert (remove s k) k) y) (sym (tied-same q k e)) (new-insert (remove s k) k))
        (λ e. has-insert (remove s k) k q (removed s k q ∙ and-both (not (name_eq q k)) (contains s q) (not-true (name_eq q k) e) i))
        (is_or_not (name_eq q k)))

    gone : contains (remove s k) k ≡ false
    gone = not_true (contains (remove s k) k) (λ e. both_sides (name_eq k k) (same-tied k k refl) (true-not (name_eq k k) (and_both (not (name_eq k k)) (contains s k) (sym (removed s k k) ∙ e)).0))

    by : (n : ℕ) → len (insert (remove s k) k) ≡ n → 0 < len s
    by n e =
        let a = len-insert name_cmp_total (remove s k) k ∙ ap (λ (c : Bool). cond c (len (remove s k)) (len (remove s k) + 1)) gone in
        let b = ap (λ (y : Names). len y) back in
        omega (arith, a, b)

pub len-within : (k : ℕ) (s t : Names) → len s ≤ k → Within s t → len s ≤ len t
len-within zero s t h w = omega (arith, h)
len-within (suc k) s t h w = by (items s) refl (λ q a b c. len-within k (remove s q) (remove t q) a b)
  where
    by : (ks : List Name) → items s ≡ ks → ((q : Name) → len (remove s q) ≤ k → Within (remove s q) (remove t q) → Unit {0} → len (remove s q) ≤ len (remove t q)) → len s ≤ len t
    by [] e ih = let z = ap (λ (y : Names). len y) (no_items s e) ∙ len-empty name_cmp in omega (arith, z)
    by (q ∷ ks) e ih =
        let hs : Has s q = item-has s q (subst (λ (ls : List Name). In q ls) (sym e) (inl refl)) in
        let ht = w q hs in
        let a = has-len s q hs in
        let b = has-len t q ht in
        let c = some_len s q hs in
        let d = some_len t q ht in
        let rest = ih q (omega (arith, a, h)) (remove-within s t q w) tt in
        omega (arith, a, b, c, d, rest)

-- ---- the list of what is still to be added
module _ (mesh : Shape) (x : Across) where
  pub record Worklist (old needs now : Names) (pending : List Name) : Type 0 where
    pub within : Within now (least_forest mesh x old needs)
    pub rest : (n : Name) → In n pending → Has (least_forest mesh x old needs) n
    pub holds_old : Within old now
    pub holds_needs : (n : Name) → Has needs n → Has now n ⊎ In n pending
    pub parents : (r : ℕ) (b : Bool) (w : List Bool) → Has now (r, b ∷ w) → Has now (r, w) ⊎ In (r, w) pending
    pub partners : (n m : Name) (t : Bool) → Has now n → partner x n.0 n.1 ≡ Some (m, t) → Has now m ⊎ In m pending

  pub remaining : Names → Names → Names → List Name → ℕ
  remaining old needs now pending = 3 * (len (least_forest mesh x old needs) - len now) + length pending

  module _ (tells : Tells mesh x) (old needs : Names) (forest : IsForest mesh old) (holds : HoldsPartners x old) (can : CanHold mesh needs) where
    abbrev top : Names
    top = least_forest mesh x old needs

    is_least : IsLeast mesh old needs top
    is_least = least_by_levels mesh x tells old needs (record { rooted = forest.rooted; shallow = forest.shallow }) can

    top_holds : HoldsPartners x top
    top_holds = (conforms_by_partners mesh x tells top is_least.forest).0 is_least.conforms

    pub start : (pending : List Name) → needs ≡ from_list pending → Worklist old needs old pending
    start pending e = record {
      within = is_least.holds_old;
      rest = λ n h. is_least.holds_needs n (subst (λ (y : Names). Has y n) (sym e) (in-has n pending h));
      holds_old = λ n h. h;
      holds_needs = λ n h. inr (has-in n pending (subst (λ (y : Names). Has y n) e h));
      parents = λ r b w h. inl (forest.closed r b w h);
      partners = λ n m t h e. inl (holds n.0 n.1 m t h e);
    }

    -- what is pending is of the mesh and low
    pub pending_rooted : (now : Names) (pending : List Name) → Worklist old needs now pending → (n : Name) → In n pending → (n.0 < size mesh) × (level mesh n ≤ 23)
    pending_rooted now pending w n h = (is_least.forest.rooted n (w.rest n h), is_least.forest.shallow n (w.rest n h))

    module _ (now : Names) (rest : List Name) (name : Name) (w : Worklist old needs now (rest ++ name ∷ [])) where
      last_in : In name (rest ++ name ∷ [])
      last_in = in-second name rest (name ∷ []) (inl refl)

      pub last_is : (name.0 < size mesh) × (level mesh name ≤ 23)
      last_is = pending_rooted now (rest ++ name ∷ []) w name last_in

      -- still to be added, unless it is the name
      still : (P : Name → Type 0) (n : Name) → P name → (P n → P n) → In n (rest ++ name ∷ []) → (n ≡ name) ⊎ In n rest
      still P n p q h = ⊎_elim (λ a. inr a) (λ (b : (n ≡ name) ⊎ ⊥). ⊎_elim (λ (e : n ≡ name). inl e) (λ (f : ⊥). absurd f) b) (in-append n rest (name ∷ []) h)

      -- a name that is there already
      pub known : Has now name → Worklist old needs now rest
      known h = record {
        within = w.within;
        rest = λ n i. w.rest n (in-first n rest (name ∷ []) i);
        holds_old = w.holds_old;
        holds_needs = λ n k. drop_name n (w.holds_needs n k);
        parents = λ r b v k. drop_name (r, v) (w.parents r b v k);
        partners = λ n m t k e. drop_name m (w.partners n m t k e);
      }
        where
          drop_name : (n : Name) → Has now n ⊎ In n (rest ++ name ∷ []) → Has now n ⊎ In n rest
          drop_name n c = ⊎_elim
              (λ a. inl a)
              (λ b. ⊎_elim (λ (e : n ≡ name). inl (subst (λ (y : Name). Has now y) (sym e) h)) (λ (i : In n rest). inr i) (still (λ y. Unit {0}) n tt (λ u. u) b))
              c

      -- a new name, with what is above it
      pub added : Worklist old needs (insert now name) (rest ++ names_above x name)
      added = record {
        within = λ n h. ⊎_elim (λ (e : n ≡ name). subst (λ (y : Name). Has top y) (sym e) in_top) (λ (k : Has now n). w.within n k) (insert-either now name n h);
        rest = λ n h. ⊎_elim (λ i. w.rest n (in-first n rest (name ∷ []) i)) (λ i. above_top n i) (in-append n rest (names_above x name) h);
        holds_old = λ n h. has-insert now name n (w.holds_old n h);
        holds_needs = λ n h. keep n (w.holds_needs n h);
        parents = λ r b v h. ⊎_elim
            (λ (e : (r, b ∷ v) ≡ name). inr (in-second (r, v) rest (names_above x name) (parent_above r b v e)))
            (λ (k : Has now (r, b ∷ v)). keep (r, v) (w.parents r b v k))
            (insert-either now name (r, b ∷ v) h);
        partners = λ n m t h e. ⊎_elim
            (λ (q : n ≡ name). inr (in-second m rest (names_above x name) (partner_above m t ((λ i. partner x (sym q i).0 (sym q i).1) ∙ e))))
            (λ (k : Has now n). keep m (w.partners n m t k e))
            (insert-either now name n h);
      }
        where
          in_top : Has top name
          in_top = w.rest name last_in

          keep : (n : Name) → Has now n ⊎ In n (rest ++ name ∷ []) → Has (insert now name) n ⊎ In n (rest ++ names_above x name)
          keep n c = ⊎_elim
              (λ (a : Has now n). inl (has-insert now name n a))
              (λ b. ⊎_elim
              (λ (e : n ≡ name). inl (subst (λ (y : Name). Has (insert now name) y) (sym e) (new-insert now name)))
              (λ (i : In n rest). inr (in-first n rest (names_above x name) i))
              (still (λ y. Unit {0}) n tt (λ u. u) b))
              c

          parents_of : List Name
          parents_of = option_to_list (option_map (λ (u : List Bool). (name.0, u)) (parent_of name.1))

          partners_of : List Name
          partners_of = option_to_list (option_map (λ (m : Name × Bool). m.0) (partner x name.0 name.1))

          parent_above : (r : ℕ) (b : Bool) (v : List Bool) → (r, b ∷ v) ≡ name → In (r, v) (names_above x name)
          parent_above r b v e = subst (λ (y : Name). In (r, v) (names_above x y)) e (inl refl)

          partner_above : (m : Name) (t : Bool) → partner x name.0 name.1 ≡ Some (m, t) → In m (names_above x name)
          partner_above m t e = in-second m parents_of partners_of (subst (λ (o : Option (Name × Bool)). In m (option_to_list (option_map (λ (a : Name × Bool). a.0) o))) (sym e) (inl refl))

          above_top : (n : Name) → In n (names_above x name) → Has top n
          above_top n h = ⊎_elim
              (λ i. by name.1 refl i)
              (λ i. of (partner x name.0 name.1) refl i)
              (in-append n parents_of partners_of h)
            where
              by : (v : List Bool) → name.1 ≡ v → In n (option_to_list (option_map (λ (u : List Bool). (name.0, u)) (parent_of v))) → Has top n
              by [] e i = absurd i
              by (b ∷ v) e i = ⊎_elim
                  (λ (q : n ≡ (name.0, v)). subst (λ (y : Name). Has top y) (sym q) (is_least.forest.closed name.0 b v (subst (λ (u : List Bool). Has top (name.0, u)) e in_top)))
                  (λ (f : ⊥). absurd f)
                  i

              of : (o : Option (Name × Bool)) → partner x name.0 name.1 ≡ o → In n (option_to_list (option_map (λ (a : Name × Bool). a.0) o)) → Has top n
              of None e i = absurd i
              of (Some a) e i = ⊎_elim
                  (λ (q : n ≡ a.0). subst (λ (y : Name). Has top y) (sym q) (top_holds name.0 name.1 a.0 a.1 in_top e))
                  (λ (f : ⊥). absurd f)
                  i

      short : length (names_above x name) ≤ 2
      short = by (parent_of name.1) (partner x name.0 name.1)
        where
          by : (o : Option (List Bool)) (p : Option (Name × Bool)) → length (option_to_list (option_map (λ (u : List Bool). (name.0, u)) o) ++ option_to_list (option_map (λ (m : Name × Bool). m.0) p)) ≤ 2
          by None None = omega arith
          by None (Some m) = omega arith
          by (Some u) None = omega arith
          by (Some u) (Some m) = omega arith

      -- less is left
      pub known_less : remaining old needs now rest < remaining old needs now (rest ++ name ∷ [])
      unfolding remaining
      known_less = omega (arith, length-append rest (name ∷ []))

      pub added_less : contains now name ≡ false → remaining old needs (insert now name) (rest ++ names_above x name) < remaining old needs now (rest ++ name ∷ [])
      unfolding remaining
      added_less out =
          let longer = len-insert name_cmp_total now name ∙ ap (λ (c : Bool). cond c (len now) (len now + 1)) out in
          let within = len-within (len (insert now name)) (insert now name) top (omega arith) added.within in
          omega (arith, longer, within, length-append rest (name ∷ []), length-append rest (names_above x name), short)

    pub finished : (now : Names) → Worklist old needs now [] → now ≡ top
    finished now w =
        let nothing : (n : Name) → Has now n ⊎ In n [] → Has now n = λ n c. ⊎_elim (λ a. a) (λ (f : ⊥). absurd f) c in
        let is_forest : IsForest mesh now = record {
          rooted = λ n h. is_least.forest.rooted n (w.within n h);
          shallow = λ n h. is_least.forest.shallow n (w.within n h);
          closed = λ r b v h. nothing (r, v) (w.parents r b v h);
        } in
        let conforms = (conforms_by_partners mesh x tells now is_forest).1 (λ r v m t h e. nothing m (w.partners (r, v) m t h e)) in
        within-both now top w.within (is_least.least now is_forest conforms w.holds_old (λ n h. nothing n (w.holds_needs n h)))

    -- ---- the steps of the loop
    module _ (now : Names) (pending rest : List Name) (name : Name) (w : Worklist old needs now pending) (e : pending ≡ rest ++ name ∷ []) where
      popped : Worklist old needs now (rest ++ name ∷ [])
      popped = subst (λ (l : List Name). Worklist old needs now l) e w

      pub popped_low : (name.0 < size mesh) × (level mesh name ≤ 24)
      popped_low = let l = last_is now rest name popped in (l.0, omega (arith, l.1))

      step_known : (next : Names) → contains now name ≡ true → next ≡ insert now name → Worklist old needs next rest × (remaining old needs next rest < remaining old needs now pending)
      step_known next h k =
          let same : now ≡ next = within-both now (insert now name) (λ q i. has-insert now name q i) (λ q i. ⊎_elim (λ (p : q ≡ name). subst (λ (y : Name). Has now y) (sym p) h) (λ j. j) (insert-either now name q i)) ∙ sym k in (
            subst (λ (y : Names). Worklist old needs y rest) same (known now rest name popped h),
            subst (λ (y : Names). remaining old needs y rest < remaining old needs now pending) same (subst (λ (l : List Name). remaining old needs now rest < remaining old needs now l) (sym e) (known_less now rest name popped)),
          )

      step_added : (next : Names) (above : List Name) → contains now name ≡ false → next ≡ insert now name → above ≡ rest ++ names_above x name → Worklist old needs next above × (remaining old needs next above < remaining old needs now pending)
      step_added next above out k l = (
        subst (λ (y : Names). Worklist old needs y above) (sym k) (subst (λ (z : List Name). Worklist old needs (insert now name) z) (sym l) (added now rest name popped)),
        subst (λ (y : Names). remaining old needs y above < remaining old needs now pending) (sym k)
            (subst (λ (z : List Name). remaining old needs (insert now name) z < remaining old needs now pending) (sym l)
            (subst (λ (z : List Name). remaining old needs (insert now name) (rest ++ names_above x name) < remaining old needs now z) (sym e) (added_less now rest name popped out))),
      )

      pub step : (next : Names) (left : List Name) → next ≡ insert now name → left ≡ rest ++ cond (contains now name) [] (names_above x name) → Worklist old needs next left × (remaining old needs next left < remaining old needs now pending)
      step next left k l = by (contains now name) refl l
        where
          by : (b : Bool) → contains now name ≡ b → left ≡ rest ++ cond b [] (names_above x name) → Worklist old needs next left × (remaining old needs next left < remaining old needs now pending)
          by true h m = subst (λ (z : List Name). Worklist old needs next z × (remaining old needs next z < remaining old needs now pending)) (sym (m ∙ append-nil rest)) (step_known next h k)
          by false h m = step_added next left h k m

    pub finish : (now : Names) (pending rest : List Name) → Worklist old needs now pending → pending ≡ rest ++ [] → length rest ≡ 0 → now ≡ top
    finish now pending rest w e z = finished now (subst (λ (l : List Name). Worklist old needs now l) (e ∙ append-nil rest ∙ none rest z) w)
      where
        none : (l : List Name) → length l ≡ 0 → l ≡ []
        none [] z = refl
        none (q ∷ l) z = absurd (omega (arith, z))
