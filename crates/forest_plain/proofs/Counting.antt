-- The patches of a sorted set, counted along its keys.
use Rattle.std.proofs.Common.{◌≡◌, ◌⊎◌, ℕ, ◌+◌, ◌<◌, Bool, true, false, cond, ◌||◌, refl, sym, ap, ◌∙◌, subst, List, [], ◌∷◌, arith, inl, inr, ⊎_elim, count_by, fold, length, ◌^◌}
use Rattle.std.specs.List.{list_any}
use Rattle.std.specs.List.Sorted.{IsStrictlySortedBy}
use Rattle.std.specs.Ordering.{is_eq}
use Rattle.std.specs.FinSet.{contains, insert, retain, len, from_list, empty, contains-empty, contains-from_list, len-insert, len-empty}
use Rattle.mesh_names.specs.Names.{Name, name_cmp, name_eq}
use Rattle.mesh_names.specs.Order.{name_cmp_total}
use Rattle.mesh_names.specs.Forests.{Names, Has}
use Rattle.mesh_names.specs.Partners.{Across}
use Rattle.mesh_names.specs.Patches.{owns, patch_count}
use Rattle.mesh_names.proofs.Sets.{In, is_or_not, both_sides, in-has, within-both}
use Rattle.mesh_names.proofs.Booleans.{and_both, and-both, not_true, retained}
use Rattle.mesh_names.proofs.Inserting.{has-insert, new-insert, insert-either}

-- a key that is below all others is none of them
first_apart : (k : Name) (ks : List Name) → IsStrictlySortedBy name_cmp (k ∷ ks) → list_any (name_eq k) ks ≡ false
unfolding IsStrictlySortedBy
first_apart k [] h = refl
first_apart k (q ∷ ks) h = λ i. is_eq (h.0.0 i) || first_apart k ks (h.0.1, h.1.1) i

rest_sorted : (k : Name) (ks : List Name) → IsStrictlySortedBy name_cmp (k ∷ ks) → IsStrictlySortedBy name_cmp ks
unfolding IsStrictlySortedBy
rest_sorted k ks h = h.1

module _ (p : Name → Bool) where
  from : (c : ℕ) (ks : List Name) → fold (λ a (x : Name). a + cond (p x) 1 0) c ks ≡ c + count_by p ks
  from c [] = omega arith
  from c (k ∷ ks) = let a = from (c + cond (p k) 1 0) ks in let b = from (0 + cond (p k) 1 0) ks in omega (arith, a, b)

  counted : (k : Name) (ks : List Name) → p k ≡ true → count_by p ks + 1 ≡ count_by p (k ∷ ks)
  counted k ks e = let a = from (0 + cond (p k) 1 0) ks in let b = ap {B = ℕ} (λ (c : Bool). cond c 1 0) e in omega (arith, a, b)

  skipped : (k : Name) (ks : List Name) → p k ≡ false → count_by p ks ≡ count_by p (k ∷ ks)
  skipped k ks e = let a = from (0 + cond (p k) 1 0) ks in let b = ap {B = ℕ} (λ (c : Bool). cond c 1 0) e in omega (arith, a, b)

  pub len-retain : (ks : List Name) → IsStrictlySortedBy name_cmp ks → len (retain (from_list {R = name_cmp} ks) p) ≡ count_by p ks
  len-retain [] h = ap (λ (s : Names). len s) (within-both (retain (from_list []) p) empty
      (λ q i. absurd (both_sides (contains (empty {R = name_cmp}) q) (and_both (contains (from_list {R = name_cmp} []) q) (p q) (sym (retained (from_list []) p q) ∙ i)).0 (contains-empty name_cmp q)))
      (λ q i. absurd (both_sides (contains (empty {R = name_cmp}) q) i (contains-empty name_cmp q)))) ∙ len-empty name_cmp
  len-retain (k ∷ ks) h = with_first k ks h (is_or_not (p k)) (len-retain ks (rest_sorted k ks h))
    where
      kept_in : (k : Name) (ks : List Name) → p k ≡ true → retain (from_list {R = name_cmp} (k ∷ ks)) p ≡ insert (retain (from_list ks) p) k
      kept_in k ks e = within-both (retain (from_list (k ∷ ks)) p) (insert (retain (from_list ks) p) k)
          (λ q i. let b = and_both (contains (from_list {R = name_cmp} (k ∷ ks)) q) (p q) (sym (retained (from_list (k ∷ ks)) p q) ∙ i) in
          ⊎_elim (λ (t : q ≡ k). subst (λ (y : Name). Has (insert (retain (from_list ks) p) k) y) (sym t) (new-insert (retain (from_list ks) p) k))
          (λ t. has-insert (retain (from_list ks) p) k q (retained (from_list ks) p q ∙ and-both (contains (from_list {R = name_cmp} ks) q) (p q) t b.1))
          (insert-either (from_list ks) k q b.0))
          (λ q i. ⊎_elim
          (λ (t : q ≡ k). subst (λ (y : Name). Has (retain (from_list (k ∷ ks)) p) y) (sym t) (retained (from_list (k ∷ ks)) p k ∙ and-both (contains (from_list {R = name_cmp} (k ∷ ks)) k) (p k) (new-insert (from_list ks) k) e))
          (λ t. let b = and_both (contains (from_list {R = name_cmp} ks) q) (p q) (sym (retained (from_list ks) p q) ∙ t) in
          retained (from_list (k ∷ ks)) p q ∙ and-both (contains (from_list {R = name_cmp} (k ∷ ks)) q) (p q) (has-insert (from_list ks) k q b.0) b.1)
          (insert-either (retain (from_list ks) p) k q i))

      left_out : (k : Name) (ks : List Name) → p k ≡ false → retain (from_list {R = name_cmp} (k ∷ ks)) p ≡ retain (from_list ks) p
      left_out k ks e = within-both (retain (from_list (k ∷ ks)) p) (retain (from_list ks) p)
          (λ q i. let b = and_both (contains (from_list {R = name_cmp} (k ∷ ks)) q) (p q) (sym (retained (from_list (k ∷ ks)) p q) ∙ i) in
          ⊎_elim (λ (t : q ≡ k). absurd (both_sides (p k) (subst (λ (y : Name). p y ≡ true) t b.1) e))
          (λ t. retained (from_list ks) p q ∙ and-both (contains (from_list {R = name_cmp} ks) q) (p q) t b.1)
          (insert-either (from_list ks) k q b.0))
          (λ q i. let b = and_both (contains (from_list {R = name_cmp} ks) q) (p q) (sym (retained (from_list ks) p q) ∙ i) in
          retained (from_list (k ∷ ks)) p q ∙ and-both (contains (from_list {R = name_cmp} (k ∷ ks)) q) (p q) (has-insert (from_list ks) k q b.0) b.1)

      new_to : (k : Name) (ks : List Name) → IsStrictlySortedBy name_cmp (k ∷ ks) → contains (retain (from_list {R = name_cmp} ks) p) k ≡ false
      new_to k ks h = not_true (contains (retain (from_list {R = name_cmp} ks) p) k) (λ i.
          both_sides (contains (from_list {R = name_cmp} ks) k) (and_both (contains (from_list {R = name_cmp} ks) k) (p k) (sym (retained (from_list ks) p k) ∙ i)).0 (contains-from_list name_cmp_total ks k ∙ first_apart k ks h))

      with_first : (k : Name) (ks : List Name) → IsStrictlySortedBy name_cmp (k ∷ ks) → (p k ≡ true) ⊎ (p k ≡ false) → len (retain (from_list {R = name_cmp} ks) p) ≡ count_by p ks → len (retain (from_list {R = name_cmp} (k ∷ ks)) p) ≡ count_by p (k ∷ ks)
      with_first k ks h c ih = ⊎_elim
          (λ e. let a = ap (λ (s : Names). len s) (kept_in k ks e) ∙ len-insert name_cmp_total (retain (from_list ks) p) k ∙ ap (λ (c : Bool). cond c (len (retain (from_list {R = name_cmp} ks) p)) (len (retain (from_list {R = name_cmp} ks) p) + 1)) (new_to k ks h) in
          a ∙ ap (λ n. n + 1) ih ∙ counted k ks e)
          (λ e. ap (λ (s : Names). len s) (left_out k ks e) ∙ ih ∙ skipped k ks e)
          c

-- what is left to be counted
pub record Left (x : Across) (s : Names) (count : ℕ) (rest : List Name) : Type 0 where
  pub members : (n : Name) → In n rest → Has s n
  pub total : patch_count x s ≡ count + count_by (owns x) rest
  pub small : count + length rest < 2 ^ 63

pub all_left : (x : Across) (rest keys : List Name) (s : Names) → rest ≡ keys → from_list keys ≡ s → IsStrictlySortedBy name_cmp keys → length keys < 2 ^ 63 → Left x s 0 rest
all_left x rest keys s r e h f = subst (λ (ks : List Name). Left x s 0 ks) (sym r) (record {
  members = λ n i. subst (λ (y : Names). Has y n) e (in-has n keys i);
  total = let a = ap (λ (y : Names). patch_count x y) (sym e) ∙ len-retain (owns x) keys h in omega (arith, a);
  small = omega (arith, f);
})

pub one_counted : (x : Across) (s : Names) (count : ℕ) (rest later : List Name) (n : Name) → Left x s count rest → rest ≡ n ∷ later → owns x n ≡ true → Left x s (count + 1) later
one_counted x s count rest later n l e o = record {
  members = λ m i. l.members m (subst (λ (ks : List Name). In m ks) (sym e) (inr i));
  total = let a = l.total ∙ ap (λ (ks : List Name). count + count_by (owns x) ks) e in omega (arith, a, counted (owns x) n later o);
  small = omega (arith, l.small, ap (λ (ks : List Name). length ks) e);
}

pub one_skipped : (x : Across) (s : Names) (count : ℕ) (rest later : List Name) (n : Name) → Left x s count rest → rest ≡ n ∷ later → owns x n ≡ false → Left x s count later
one_skipped x s count rest later n l e o = record {
  members = λ m i. l.members m (subst (λ (ks : List Name). In m ks) (sym e) (inr i));
  total = let a = l.total ∙ ap (λ (ks : List Name). count + count_by (owns x) ks) e in omega (arith, a, skipped (owns x) n later o);
  small = omega (arith, l.small, ap (λ (ks : List Name). length ks) e);
}

pub next_member : (x : Across) (s : Names) (count : ℕ) (rest later : List Name) (n : Name) → Left x s count rest → rest ≡ n ∷ later → Has s n
next_member x s count rest later n l e = l.members n (subst (λ (ks : List Name). In n ks) (sym e) (inl refl))

pub none_left : (x : Across) (s : Names) (count : ℕ) (rest : List Name) → Left x s count rest → rest ≡ [] → count ≡ patch_count x s
none_left x s count rest l e = let a = l.total ∙ ap (λ (ks : List Name). count + count_by (owns x) ks) e in omega (arith, a)
