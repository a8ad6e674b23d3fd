-- Members of sets of names.
use Rattle.std.proofs.Common.{◌≡◌, ◌⊎◌, ℕ, zero, suc, ◌<◌, length, slice_index_or, arith, Bool, true, false, ◌||◌, true≢false, refl, sym, ap, ◌∙◌, subst, List, [], ◌∷◌, ◌++◌, inl, inr, ⊎_elim, filter_map}
use Rattle.std.specs.Prelude.{Option, Some, None}
use Rattle.std.specs.Ordering.{eq_by_cmp, is_eq}
use Rattle.std.specs.Cmp.{Equal-is, tied_itself}
use Rattle.std.specs.List.{list_any, cons_option}
use Rattle.std.specs.FinSet.{contains, union, from_list, items, contains-items, contains-from_list, contains-union, same_set}
use Rattle.mesh_names.specs.Names.{Name, name_cmp}
use Rattle.mesh_names.specs.Order.{name_cmp_total, name_cmp-same}
use Rattle.mesh_names.specs.Forests.{Names, Has, Within}
use Rattle.mesh_names.specs.LeastForest.{grown_by}

pub is_or_not : (b : Bool) → (b ≡ true) ⊎ (b ≡ false)
is_or_not true = inl refl
is_or_not false = inr refl

pub both_sides : (b : Bool) → b ≡ true → b ≡ false → ⊥
both_sides b p q = true≢false (sym p ∙ q)

pub or_either : (a b : Bool) → (a || b) ≡ true → (a ≡ true) ⊎ (b ≡ true)
or_either true b e = inl refl
or_either false b e = inr e

pub or-left : (a b : Bool) → a ≡ true → (a || b) ≡ true
or-left a b e = ap (λ (c : Bool). c || b) e

pub or-right : (a b : Bool) → b ≡ true → (a || b) ≡ true
or-right true b e = refl
or-right false b e = e

pub both_ways : (a b : Bool) → (a ≡ true → b ≡ true) → (b ≡ true → a ≡ true) → a ≡ b
both_ways true b f g = sym (f refl)
both_ways false true f g = g refl
both_ways false false f g = refl

-- in a list
abbrev pub In : Name → List Name → Type 0
In q [] = ⊥
In q (k ∷ ks) = (q ≡ k) ⊎ In q ks

-- what stands at a place of a list is in it
pub item-in : (ks : List Name) (i : ℕ) (d : Name) → i < length ks → In (slice_index_or ks i d) ks
item-in [] i d h = absurd (omega (arith, h))
item-in (k ∷ ks) zero d h = inl refl
item-in (k ∷ ks) (suc i) d h = inr (item-in ks i d (omega (arith, h)))

pub tied-same : (q k : Name) → eq_by_cmp name_cmp q k ≡ true → q ≡ k
tied-same q k e = name_cmp-same q k ((Equal-is (name_cmp q k)).0 e)

pub same-tied : (q k : Name) → q ≡ k → eq_by_cmp name_cmp q k ≡ true
same-tied q k e = subst (λ (y : Name). eq_by_cmp name_cmp q y ≡ true) e (ap is_eq (tied_itself name_cmp_total q))

any-in : (q : Name) (ks : List Name) → list_any (eq_by_cmp name_cmp q) ks ≡ true → In q ks
any-in q [] e = absurd (true≢false (sym e))
any-in q (k ∷ ks) e = ⊎_elim (λ h. inl (tied-same q k h)) (λ h. inr (any-in q ks h)) (or_either (eq_by_cmp name_cmp q k) (list_any (eq_by_cmp name_cmp q) ks) e)

in-any : (q : Name) (ks : List Name) → In q ks → list_any (eq_by_cmp name_cmp q) ks ≡ true
in-any q [] h = absurd h
in-any q (k ∷ ks) h = ⊎_elim (λ (e : q ≡ k). or-left (eq_by_cmp name_cmp q k) (list_any (eq_by_cmp name_cmp q) ks) (same-tied q k e)) (λ (i : In q ks). or-right (eq_by_cmp name_cmp q k) (list_any (eq_by_cmp name_cmp q) ks) (in-any q ks i)) h

pub has-in : (q : Name) (ks : List Name) → Has (from_list ks) q → In q ks
has-in q ks h = any-in q ks (sym (contains-from_list name_cmp_total ks q) ∙ h)

pub in-has : (q : Name) (ks : List Name) → In q ks → Has (from_list ks) q
in-has q ks h = contains-from_list name_cmp_total ks q ∙ in-any q ks h

pub has-item : (s : Names) (q : Name) → Has s q → In q (items s)
has-item s q h = any-in q (items s) (sym (contains-items s q) ∙ h)

pub item-has : (s : Names) (q : Name) → In q (items s) → Has s q
item-has s q h = contains-items s q ∙ in-any q (items s) h

pub in-append : (q : Name) (ks ls : List Name) → In q (ks ++ ls) → In q ks ⊎ In q ls
in-append q [] ls h = inr h
in-append q (k ∷ ks) ls h = ⊎_elim (λ (e : q ≡ k). inl (inl e)) (λ (i : In q (ks ++ ls)). ⊎_elim (λ (a : In q ks). inl (inr a)) (λ (b : In q ls). inr b) (in-append q ks ls i)) h

pub in-first : (q : Name) (ks ls : List Name) → In q ks → In q (ks ++ ls)
in-first q [] ls h = absurd h
in-first q (k ∷ ks) ls h = ⊎_elim (λ (e : q ≡ k). inl e) (λ (i : In q ks). inr (in-first q ks ls i)) h

pub in-second : (q : Name) (ks ls : List Name) → In q ls → In q (ks ++ ls)
in-second q [] ls h = h
in-second q (k ∷ ks) ls h = inr (in-second q ks ls h)

-- unions
pub union-either : (s t : Names) (q : Name) → Has (union s t) q → Has s q ⊎ Has t q
union-either s t q h = or_either (contains s q) (contains t q) (sym (contains-union name_cmp_total s t q) ∙ h)

pub union-left : (s t : Names) (q : Name) → Has s q → Has (union s t) q
union-left s t q h = contains-union name_cmp_total s t q ∙ or-left (contains s q) (contains t q) h

pub union-right : (s t : Names) (q : Name) → Has t q → Has (union s t) q
union-right s t q h = contains-union name_cmp_total s t q ∙ or-right (contains s q) (contains t q) h

-- sets that hold each other are one
pub within-both : (s t : Names) → Within s t → Within t s → s ≡ t
within-both s t f g = same_set name_cmp_total name_cmp-same s t (λ n. both_ways (contains s n) (contains t n) (f n) (g n))

-- what a function gives for members
module _ (f : Name → Option Name) where
  mapped-in : (m n : Name) (ks : List Name) → In n ks → f n ≡ Some m → In m (filter_map f ks)
  mapped-in m n [] h e = absurd h
  mapped-in m n (k ∷ ks) h e = ⊎_elim
      (λ (p : n ≡ k). subst (λ (o : Option Name). In m (cons_option o (filter_map f ks))) (sym e ∙ ap f p) (inl refl))
      (λ (i : In n ks). kept (f k) (mapped-in m n ks i e))
      h
    where
      kept : (o : Option Name) → In m (filter_map f ks) → In m (cons_option o (filter_map f ks))
      kept None i = i
      kept (Some a) i = inr i

  mapped-from : (m : Name) (ks : List Name) → In m (filter_map f ks) → (n : Name) × In n ks × (f n ≡ Some m)
  mapped-from m [] h = absurd h
  mapped-from m (k ∷ ks) h = by (f k) refl (λ i. mapped-from m ks i) h
    where
      by : (o : Option Name) → f k ≡ o → (In m (filter_map f ks) → (n : Name) × In n ks × (f n ≡ Some m)) → In m (cons_option o (filter_map f ks)) → (n : Name) × In n (k ∷ ks) × (f n ≡ Some m)
      by None e ih i = let r = ih i in (r.0, inr r.1, r.2)
      by (Some a) e ih i = ⊎_elim (λ (p : m ≡ a). (k, inl refl, e ∙ ap Some (sym p))) (λ (j : In m (filter_map f ks)). let r = ih j in (r.0, inr r.1, r.2)) i

  pub grown-old : (s : Names) (m : Name) → Has s m → Has (grown_by f s) m
  grown-old s m h = union-left s (from_list (filter_map f (items s))) m h

  pub grown-new : (s : Names) (n m : Name) → Has s n → f n ≡ Some m → Has (grown_by f s) m
  grown-new s n m h e = union-right s (from_list (filter_map f (items s))) m (in-has m (filter_map f (items s)) (mapped-in m n (items s) (has-item s n h) e))

  pub grown-from : (s : Names) (m : Name) → Has (grown_by f s) m → Has s m ⊎ ((n : Name) × Has s n × (f n ≡ Some m))
  grown-from s m h = ⊎_elim
      (λ a. inl a)
      (λ b. let r = mapped-from m (items s) (has-in m (filter_map f (items s)) b) in inr (r.0, item-has s r.0 r.1, r.2))
      (union-either s (from_list (filter_map f (items s))) m h)
