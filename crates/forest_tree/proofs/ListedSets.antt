-- Each finite set of names has a list in order, and how many names sets have together.
use Rattle.std.proofs.Common.{◌≡◌, ◌⊎◌, ◌+◌, Bool, true, false, cond, not, refl, sym, ap, ◌∙◌, subst, List, [], ◌∷◌, inl, inr, ⊎_elim, arith}
use Rattle.std.specs.List.{AllByRecursion}
use Rattle.std.specs.List.Sorted.{IsStrictlySortedBy}
use Rattle.std.specs.Ordering.{ordering_reverse}
use Rattle.std.specs.Cmp.{tied_itself}
use Rattle.std.specs.declared.cmp.Ordering.{Ordering}
use Rattle.std.specs.declared.cmp.Ordering.TheVariants.{Less, Equal, Greater}
use Rattle.std.specs.FinSet.{contains, insert, union, difference, retain, len, from_list, items, empty, len-empty, len-insert}
use Rattle.mesh_names.specs.Names.{Name, name_cmp}
use Rattle.mesh_names.specs.Order.{name_cmp_total, name_cmp-same}
use Rattle.mesh_names.specs.Forests.{Names, Has, IsListOf, Within}
use Rattle.mesh_names.specs.Partners.{Across}
use Rattle.mesh_names.specs.Patches.{owns, patch_count}
use Rattle.mesh_names.proofs.Booleans.{and_both, and-both, not-true, not_true, retained, true-not, left}
use Rattle.mesh_names.proofs.Inserting.{has-insert, new-insert, insert-either}
use Rattle.mesh_names.proofs.Lists.{each-in}
use Rattle.mesh_names.proofs.Sets.{In, is_or_not, both_sides, has-in, in-has, has-item, item-has, union-either, union-left, union-right, within-both}
use Rattle.forest_plain.proofs.Counting.{len-retain}
use Rattle.forest_tree.specs.Apart.{IsApart}

-- ---- lists in order
abbrev put_by : Name → Name → List Name → Ordering → List Name → List Name
put_by n k ks Less rest = n ∷ k ∷ ks
put_by n k ks Equal rest = k ∷ ks
put_by n k ks Greater rest = k ∷ rest

abbrev put : Name → List Name → List Name
put n [] = n ∷ []
put n (k ∷ ks) = put_by n k ks (name_cmp n k) (put n ks)

from-put : (n q : Name) (ks : List Name) → In q (put n ks) → (q ≡ n) ⊎ In q ks
from-put n q [] h = h
from-put n q (k ∷ ks) h = by (name_cmp n k) h (from-put n q ks)
  where
    by : (o : Ordering) → In q (put_by n k ks o (put n ks)) → (In q (put n ks) → (q ≡ n) ⊎ In q ks) → (q ≡ n) ⊎ In q (k ∷ ks)
    by Less h rest = h
    by Equal h rest = inr h
    by Greater h rest = ⊎_elim (λ (e : q ≡ k). inr (inl e)) (λ (i : In q (put n ks)). ⊎_elim (λ (e : q ≡ n). inl e) (λ (j : In q ks). inr (inr j)) (rest i)) h

to-put : (n q : Name) (ks : List Name) → (q ≡ n) ⊎ In q ks → In q (put n ks)
to-put n q [] h = h
to-put n q (k ∷ ks) h = by (name_cmp n k) refl h (to-put n q ks)
  where
    by : (o : Ordering) → name_cmp n k ≡ o → (q ≡ n) ⊎ In q (k ∷ ks) → ((q ≡ n) ⊎ In q ks → In q (put n ks)) → In q (put_by n k ks o (put n ks))
    by Less e h rest = h
    by Equal e h rest = ⊎_elim (λ (p : q ≡ n). inl (p ∙ name_cmp-same n k e)) (λ (i : In q (k ∷ ks)). i) h
    by Greater e h rest = ⊎_elim (λ (p : q ≡ n). inr (rest (inl p))) (λ (i : In q (k ∷ ks)). ⊎_elim (λ (p : q ≡ k). inl p) (λ (j : In q ks). inr (rest (inr j))) i) h

all-in : (P : Name → Type 0) (ks : List Name) → ((q : Name) → In q ks → P q) → AllByRecursion P ks
all-in P [] h = tt
all-in P (k ∷ ks) h = (h k (inl refl), all-in P ks (λ q i. h q (inr i)))

sorted-put : (n : Name) (ks : List Name) → IsStrictlySortedBy name_cmp ks → IsStrictlySortedBy name_cmp (put n ks)
unfolding IsStrictlySortedBy
sorted-put n [] h = (tt, tt)
sorted-put n (k ∷ ks) h = by (name_cmp n k) refl (sorted-put n ks h.1)
  where
    by : (o : Ordering) → name_cmp n k ≡ o → IsStrictlySortedBy name_cmp (put n ks) → IsStrictlySortedBy name_cmp (put_by n k ks o (put n ks))
    by Less e rest = ((e, all-in (λ y. name_cmp n y ≡ Less) ks (λ q i. name_cmp_total.trans n k q e (each-in (λ y. name_cmp k y ≡ Less) ks q h.0 i))), h)
    by Equal e rest = h
    by Greater e rest = (
      all-in (λ y. name_cmp k y ≡ Less) (put n ks) (λ q i. ⊎_elim
          (λ (p : q ≡ n). subst (λ (y : Name). name_cmp k y ≡ Less) (sym p) (name_cmp_total.antisymm k n ∙ ap ordering_reverse e))
          (λ (j : In q ks). each-in (λ y. name_cmp k y ≡ Less) ks q h.0 j)
          (from-put n q ks i)),
      rest,
    )

abbrev in_order : List Name → List Name
in_order [] = []
in_order (n ∷ ns) = put n (in_order ns)

ordered-list : (ns : List Name) → IsListOf (from_list ns) (in_order ns)
unfolding IsStrictlySortedBy
ordered-list [] = record { in_order = tt; all = refl }
ordered-list (n ∷ ns) =
    let rest = ordered-list ns in
    record {
      in_order = sorted-put n (in_order ns) rest.in_order;
      all = within-both (from_list (put n (in_order ns))) (insert (from_list ns) n)
          (λ q h. ⊎_elim
          (λ (e : q ≡ n). subst (λ (y : Name). Has (insert (from_list ns) n) y) (sym e) (new-insert (from_list ns) n))
          (λ (i : In q (in_order ns)). has-insert (from_list ns) n q (subst (λ (s : Names). Has s q) rest.all (in-has q (in_order ns) i)))
          (from-put n q (in_order ns) (has-in q (put n (in_order ns)) h)))
          (λ q h. in-has q (put n (in_order ns)) (to-put n q (in_order ns) (⊎_elim
          (λ (e : q ≡ n). inl e)
          (λ (i : Has (from_list ns) q). inr (has-in q (in_order ns) (subst (λ (s : Names). Has s q) (sym rest.all) i)))
          (insert-either (from_list ns) n q h))));
    }

pub items-all : (s : Names) → from_list (items s) ≡ s
items-all s = within-both (from_list (items s)) s (λ q h. item-has s q (has-in q (items s) h)) (λ q h. in-has q (items s) (has-item s q h))

abbrev pub list_of : Names → List Name
list_of s = in_order (items s)

pub list_of-is : (s : Names) → IsListOf s (list_of s)
list_of-is s = subst (λ (t : Names). IsListOf t (in_order (items s))) (items-all s) (ordered-list (items s))

-- ---- how many
len-list : (s : Names) (ks : List Name) → IsStrictlySortedBy name_cmp ks → ((q : Name) → In q ks → contains s q ≡ false) → len (union s (from_list ks)) ≡ len s + len {R = name_cmp} (from_list ks)
unfolding IsStrictlySortedBy
len-list s [] h out = let e = ap (λ (t : Names). len t) (within-both (union s (from_list [])) s
    (λ q i. ⊎_elim (λ (a : Has s q). a) (λ (b : Has (from_list []) q). absurd (has-in q [] b)) (union-either s (from_list []) q i))
    (λ q i. union-left s (from_list []) q i)) in
    let z = nothing in omega (arith, e, z)
  where
    nothing : len {R = name_cmp} (from_list []) ≡ 0
    nothing = len-empty name_cmp
len-list s (k ∷ ks) h out =
    let rest = len-list s ks h.1 (λ q i. out q (inr i)) in
    let step : union s (from_list (k ∷ ks)) ≡ insert (union s (from_list ks)) k = within-both (union s (from_list (k ∷ ks))) (insert (union s (from_list ks)) k)
    (λ q i. ⊎_elim
    (λ (a : Has s q). has-insert (union s (from_list ks)) k q (union-left s (from_list ks) q a))
    (λ (b : Has (from_list (k ∷ ks)) q). ⊎_elim (λ (e : q ≡ k). subst (λ (y : Name). Has (insert (union s (from_list ks)) k) y) (sym e) (new-insert (union s (from_list ks)) k)) (λ (c : Has (from_list ks) q). has-insert (union s (from_list ks)) k q (union-right s (from_list ks) q c)) (insert-either (from_list ks) k q b))
    (union-either s (from_list (k ∷ ks)) q i))
    (λ q i. ⊎_elim
    (λ (e : q ≡ k). union-right s (from_list (k ∷ ks)) q (subst (λ (y : Name). Has (from_list (k ∷ ks)) y) (sym e) (new-insert (from_list ks) k)))
    (λ (a : Has (union s (from_list ks)) q). ⊎_elim (λ (b : Has s q). union-left s (from_list (k ∷ ks)) q b) (λ (b : Has (from_list ks) q). union-right s (from_list (k ∷ ks)) q (has-insert (from_list ks) k q b)) (union-either s (from_list ks) q a))
    (insert-either (union s (from_list ks)) k q i)) in
    let new_one : contains {R = name_cmp} (from_list ks) k ≡ false = not_true (contains {R = name_cmp} (from_list ks) k) (λ i. below_itself k ks h.0 (has-in k ks i)) in
    let new_all : contains (union s (from_list ks)) k ≡ false = not_true (contains (union s (from_list ks)) k) (λ i. ⊎_elim (λ (a : Has s k). both_sides (contains s k) a (out k (inl refl))) (λ (b : Has (from_list ks) k). both_sides (contains {R = name_cmp} (from_list ks) k) b new_one) (union-either s (from_list ks) k i)) in
    let a = ap (λ (t : Names). len t) step ∙ len-insert name_cmp_total (union s (from_list ks)) k ∙ ap (λ (c : Bool). cond c (len (union s (from_list ks))) (len (union s (from_list ks)) + 1)) new_all in
    let b = len-insert name_cmp_total (from_list ks) k ∙ ap (λ (c : Bool). cond c (len {R = name_cmp} (from_list ks)) (len {R = name_cmp} (from_list ks) + 1)) new_one in
    omega (arith, a, b, rest)
  where
    itself : (k : Name) → name_cmp k k ≡ Less → ⊥
    itself k e = less_not (sym e ∙ tied_itself name_cmp_total k)
      where
        less_not : Less ≡ Equal → ⊥
        less_not q = cc

    below_itself : (k : Name) (ks : List Name) → AllByRecursion (λ y. name_cmp k y ≡ Less) ks → In k ks → ⊥
    below_itself k ks all i = itself k (each-in (λ y. name_cmp k y ≡ Less) ks k all i)

len-union : (s t : Names) → IsApart s t → len (union s t) ≡ len s + len t
len-union s t apart =
    let l = list_of-is t in
    let e = len-list s (list_of t) l.in_order (λ q i. apart q (subst (λ (u : Names). Has u q) l.all (in-has q (list_of t) i))) in
    let a = ap (λ (u : Names). len (union s u)) l.all in
    let b = ap (λ (u : Names). len u) l.all in
    omega (arith, a, b, e)

module _ (x : Across) where
  abbrev owned : Names → Names
  owned s = retain s (owns x)

  owned-union : (s t : Names) → owned (union s t) ≡ union (owned s) (owned t)
  owned-union s t = within-both (owned (union s t)) (union (owned s) (owned t))
      (λ q h. let b = and_both (contains (union s t) q) (owns x q) (sym (retained (union s t) (owns x) q) ∙ h) in ⊎_elim
      (λ (a : Has s q). union-left (owned s) (owned t) q (retained s (owns x) q ∙ and-both (contains s q) (owns x q) a b.1))
      (λ (a : Has t q). union-right (owned s) (owned t) q (retained t (owns x) q ∙ and-both (contains t q) (owns x q) a b.1))
      (union-either s t q b.0))
      (λ q h. ⊎_elim
      (λ (a : Has (owned s) q). let b = and_both (contains s q) (owns x q) (sym (retained s (owns x) q) ∙ a) in retained (union s t) (owns x) q ∙ and-both (contains (union s t) q) (owns x q) (union-left s t q b.0) b.1)
      (λ (a : Has (owned t) q). let b = and_both (contains t q) (owns x q) (sym (retained t (owns x) q) ∙ a) in retained (union s t) (owns x) q ∙ and-both (contains (union s t) q) (owns x q) (union-right s t q b.0) b.1)
      (union-either (owned s) (owned t) q h))

  pub count-union : (s t : Names) → IsApart s t → patch_count x (union s t) ≡ patch_count x s + patch_count x t
  count-union s t apart = ap (λ (u : Names). len u) (owned-union s t) ∙ len-union (owned s) (owned t) (λ q h.
      let b = and_both (contains t q) (owns x q) (sym (retained t (owns x) q) ∙ h) in
      not_true (contains (owned s) q) (λ i. both_sides (contains s q) (and_both (contains s q) (owns x q) (sym (retained s (owns x) q) ∙ i)).0 (apart q b.0)))

  pub count-difference : (s t : Names) → Within t s → patch_count x (difference s t) + patch_count x t ≡ patch_count x s
  count-difference s t within = sym (count-union (difference s t) t apart) ∙ ap (patch_count x) whole
    where
      apart : IsApart (difference s t) t
      apart q h = not_true (contains (difference s t) q) (λ i. both_sides (contains t q) h (true-not (contains t q) (and_both (contains s q) (not (contains t q)) (sym (left s t q) ∙ i)).1))

      whole : union (difference s t) t ≡ s
      whole = within-both (union (difference s t) t) s
          (λ q h. ⊎_elim (λ (a : Has (difference s t) q). (and_both (contains s q) (not (contains t q)) (sym (left s t q) ∙ a)).0) (λ (b : Has t q). within q b) (union-either (difference s t) t q h))
          (λ q h. ⊎_elim
          (λ (e : contains t q ≡ true). union-right (difference s t) t q e)
          (λ (e : contains t q ≡ false). union-left (difference s t) t q (left s t q ∙ and-both (contains s q) (not (contains t q)) h (not-true (contains t q) e)))
          (is_or_not (contains t q)))

pub count-none : (x : Across) (s : Names) → s ≡ empty → 0 ≡ patch_count x s
unfolding IsStrictlySortedBy
count-none x s e = sym (ap (patch_count x) e ∙ len-retain (owns x) [] tt)
