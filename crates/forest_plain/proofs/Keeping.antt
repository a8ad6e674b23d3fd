-- The marks of leaves that are kept, leaf by leaf.
use Rattle.std.proofs.Common.{◌≡◌, ℕ, ◌+◌, ◌<◌, ℤ, Bool, true, false, cond, not, ◌&&◌, ◌||◌, refl, sym, ap, ◌∙◌, subst, List, [], ◌∷◌, ◌++◌, take, length, slice_index_or, ⊎_elim}
use Rattle.std.specs.Int.{is_negative}
use Rattle.std.specs.FinSet.{contains, from_list, from_list_push, contains-insert, contains-empty}
use Rattle.mesh_names.specs.Names.{Name, name_cmp, name_eq}
use Rattle.mesh_names.specs.Order.{name_cmp_total, name_cmp-same}
use Rattle.mesh_names.specs.Forests.{Names, Has}
use Rattle.mesh_names.specs.Coarsening.{allowance, child_at}
use Rattle.mesh_names.proofs.Sets.{In, is_or_not, both_sides, has-in, in-has, in-first, in-second, tied-same, same-tied}
use Rattle.forest_plain.proofs.RowOrder.{next-take}
use Rattle.forest_plain.proofs.Turns.{no_allowance, parents_of, parent_in}

module _ (refined : Names) (mark : Name → ℤ) where
  -- how often a name may be coarsened that is one of these leaves and no member
  abbrev pub allowed_of : List Name → Name → ℕ
  allowed_of list n = cond (contains {R = name_cmp} (from_list list) n && not (contains refined n)) (allowance (mark n)) 0

  one_more : (xs : List Name) (y n : Name) → contains {R = name_cmp} (from_list (xs ++ y ∷ [])) n ≡ (name_eq n y || contains {R = name_cmp} (from_list xs) n)
  one_more xs y n = ap (λ (s : Names). contains s n) (from_list_push name_cmp_total name_cmp-same xs y) ∙ contains-insert name_cmp_total (from_list xs) y n

  pub none_allowed : (n : Name) → allowed_of [] n ≡ 0
  none_allowed n = ap (λ (b : Bool). cond (b && not (contains refined n)) (allowance (mark n)) 0) (contains-empty name_cmp n)

  -- a leaf that is a member adds nothing
  member_adds : (xs : List Name) (y : Name) → contains refined y ≡ true → (n : Name) → allowed_of (xs ++ y ∷ []) n ≡ allowed_of xs n
  member_adds xs y h n = ap (λ (b : Bool). cond (b && not (contains refined n)) (allowance (mark n)) 0) (one_more xs y n) ∙ by (name_eq n y) refl
    where
      by : (b : Bool) → name_eq n y ≡ b → cond ((b || contains {R = name_cmp} (from_list xs) n) && not (contains refined n)) (allowance (mark n)) 0 ≡ allowed_of xs n
      by false e = refl
      by true e =
          let held : contains refined n ≡ true = ap (λ (q : Name). contains refined q) (tied-same n y e) ∙ h in
          ap (λ (c : Bool). cond (not c) (allowance (mark n)) 0) held ∙ sym (nothing (contains {R = name_cmp} (from_list xs) n) held)
        where
          nothing : (b : Bool) → contains refined n ≡ true → cond (b && not (contains refined n)) (allowance (mark n)) 0 ≡ 0
          nothing false h = refl
          nothing true h = ap (λ (c : Bool). cond (not c) (allowance (mark n)) 0) h

  -- a leaf of the new forest too adds its mark
  module _ (xs : List Name) (y : Name) (out : contains refined y ≡ false) (m : ℤ) (is : m ≡ mark y) (old new : Name → ℤ) (was : (n : Name) → allowance (old n) ≡ allowed_of xs n) (step : (n : Name) → new n ≡ cond (name_eq y n && is_negative m) m (old n)) where
    own : (n : Name) → n ≡ y → allowance (new n) ≡ allowed_of (xs ++ y ∷ []) n
    own n e =
        ap allowance (step n ∙ ap (λ (b : Bool). cond (b && is_negative m) m (old n)) (same-tied y n (sym e)))
        ∙ by (is_negative m) refl
        ∙ sym here
      where
        same : allowance m ≡ allowance (mark n)
        same = ap allowance is ∙ ap (λ (q : Name). allowance (mark q)) (sym e)

        free : contains refined n ≡ false
        free = ap (λ (q : Name). contains refined q) e ∙ out

        here : allowed_of (xs ++ y ∷ []) n ≡ allowance (mark n)
        here =
            ap (λ (b : Bool). cond (b && not (contains refined n)) (allowance (mark n)) 0) (one_more xs y n ∙ ap (λ (b : Bool). b || contains {R = name_cmp} (from_list xs) n) (same-tied n y e))
            ∙ ap (λ (c : Bool). cond (not c) (allowance (mark n)) 0) free

        small : (b : Bool) → allowance (mark n) ≡ 0 → cond b (allowance (mark n)) 0 ≡ 0
        small true z = z
        small false z = refl

        by : (b : Bool) → is_negative m ≡ b → allowance (cond b m (old n)) ≡ allowance (mark n)
        by true f = same
        by false f = let zero = sym same ∙ no_allowance m f in was n ∙ small (contains {R = name_cmp} (from_list xs) n && not (contains refined n)) zero ∙ sym zero

    other : (n : Name) → name_eq y n ≡ false → name_eq n y ≡ false → allowance (new n) ≡ allowed_of (xs ++ y ∷ []) n
    other n e f =
        ap allowance (step n ∙ ap (λ (b : Bool). cond (b && is_negative m) m (old n)) e)
        ∙ was n
        ∙ ap (λ (b : Bool). cond (b && not (contains refined n)) (allowance (mark n)) 0) (sym (one_more xs y n ∙ ap (λ (b : Bool). b || contains {R = name_cmp} (from_list xs) n) f))

    leaf_adds : (n : Name) → allowance (new n) ≡ allowed_of (xs ++ y ∷ []) n
    leaf_adds n = ⊎_elim
        (λ (e : name_eq y n ≡ true). own n (sym (tied-same y n e)))
        (λ (e : name_eq y n ≡ false). other n e (back (name_eq n y) refl e))
        (is_or_not (name_eq y n))
      where
        back : (b : Bool) → name_eq n y ≡ b → name_eq y n ≡ false → b ≡ false
        back false e f = refl
        back true e f = absurd (both_sides (name_eq y n) (same-tied y n (sym (tied-same n y e))) f)

    -- and its parent
    pub parent_kept : (parents after : List Name) → after ≡ parents ++ parents_of y m → ((n : Name) (side : Bool) → 0 < allowance (old (child_at n side)) → Has (from_list parents) n) → (n : Name) (side : Bool) → 0 < allowance (new (child_at n side)) → Has (from_list after) n
    parent_kept parents after more held n side l = subst (λ (ks : List Name). Has (from_list ks) n) (sym more) (in-has n (parents ++ parents_of y m) (by (name_eq y (child_at n side) && is_negative m) refl))
      where
        step_is : (b : Bool) → (name_eq y (child_at n side) && is_negative m) ≡ b → 0 < allowance (cond b m (old (child_at n side)))
        step_is b e = subst (λ (k : ℕ). 0 < k) (ap allowance (step (child_at n side) ∙ ap (λ (c : Bool). cond c m (old (child_at n side))) e)) l

        by : (b : Bool) → (name_eq y (child_at n side) && is_negative m) ≡ b → In n (parents ++ parents_of y m)
        by true e = in-second n parents (parents_of y m) (parent_in y m n side (sym (tied-same y (child_at n side) (first e))) (step_is true e))
          where
            first : (name_eq y (child_at n side) && is_negative m) ≡ true → name_eq y (child_at n side) ≡ true
            first h = both (name_eq y (child_at n side)) h
              where
                both : (a : Bool) → (a && is_negative m) ≡ true → a ≡ true
                both true h = refl
                both false h = h
        by false e = in-first n parents (parents_of y m) (has-in n parents (held n side (step_is false e)))

  -- one leaf more of a list
  pub kept_next : (list : List Name) (i : ℕ) (y d : Name) → i < length list → y ≡ slice_index_or list i d → contains refined y ≡ false → (m : ℤ) → m ≡ mark y → (old new : Name → ℤ) → ((n : Name) → allowance (old n) ≡ allowed_of (take i list) n) →
      ((n : Name) → new n ≡ cond (name_eq y n && is_negative m) m (old n)) → (n : Name) → allowance (new n) ≡ allowed_of (take (i + 1) list) n
  kept_next list i y d low at out m is old new was step n =
      leaf_adds (take i list) y out m is old new was step n ∙ ap (λ (l : List Name). allowed_of l n) (sym (next-take list i y d low at))

  pub skipped_next : (list : List Name) (i : ℕ) (y d : Name) → i < length list → y ≡ slice_index_or list i d → contains refined y ≡ true → (old new : Name → ℤ) → ((n : Name) → allowance (old n) ≡ allowed_of (take i list) n) → ((n : Name) → new n ≡ old n) →
      (n : Name) → allowance (new n) ≡ allowed_of (take (i + 1) list) n
  skipped_next list i y d low at held old new was same n =
      ap allowance (same n) ∙ was n ∙ sym (member_adds (take i list) y held n) ∙ ap (λ (l : List Name). allowed_of l n) (sym (next-take list i y d low at))
