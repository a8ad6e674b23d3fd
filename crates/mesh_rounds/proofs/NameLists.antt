-- Lists of names, in which each name stands in a relation to all later ones.
use Rattle.std.proofs.Common.{arith, ◌≡◌, Bool, true, false, cond, refl, sym, ap, ◌∙◌, subst, List, [], ◌∷◌, ◌++◌, filter, map, inl, inr, ⊎_elim}
use Rattle.std.specs.List.{All, AllPairs}
use Rattle.std.specs.List.Sorted.{IsStrictlySortedBy}
use Rattle.std.specs.Cmp.{tied_itself}
use Rattle.std.specs.declared.cmp.Ordering.TheVariants.{Less, Equal}
use Rattle.std.proofs.lemmas.List.Elements.{All-cons, All-nil}
use Rattle.std.proofs.lemmas.List.Kept.{AllPairs-cons}
use Rattle.mesh_names.specs.Names.{Name, name_cmp}
use Rattle.mesh_names.specs.Order.{name_cmp_total}
use Rattle.mesh_names.proofs.Lists.{each-in}
use Rattle.mesh_names.proofs.Sets.{In, in-append, in-second}

-- what passes a test, and stands in a list
module _ (p : Name → Bool) where
  pub in-filter : (q : Name) (ns : List Name) → In q (filter p ns) → In q ns × (p q ≡ true)
  in-filter q [] i = absurd i
  in-filter q (n ∷ ns) i = by (in-filter q ns) (p n) refl i
    where
      by : (In q (filter p ns) → In q ns × (p q ≡ true)) → (b : Bool) → p n ≡ b → In q (cond b (n ∷ filter p ns) (filter p ns)) → In q (n ∷ ns) × (p q ≡ true)
      by rest true e j = ⊎_elim (λ (a : q ≡ n). (inl a, ap p a ∙ e)) (λ (k : In q (filter p ns)). let r = rest k in (inr r.0, r.1)) j
      by rest false e j = let r = rest j in (inr r.0, r.1)

  pub filter-in : (q : Name) (ns : List Name) → In q ns → p q ≡ true → In q (filter p ns)
  filter-in q [] i h = absurd i
  filter-in q (n ∷ ns) i h = ⊎_elim
      (λ (a : q ≡ n). subst (λ (b : Bool). In q (cond b (n ∷ filter p ns) (filter p ns))) (sym (ap p (sym a) ∙ h)) (inl a))
      (λ (j : In q ns). kept (p n) (filter-in q ns j h))
      i
    where
      kept : (b : Bool) → In q (filter p ns) → In q (cond b (n ∷ filter p ns) (filter p ns))
      kept true j = inr j
      kept false j = j

pub all-in : {A : Type 0} (P : A → Type 0) (f : Name → A) (ns : List Name) → ((n : Name) → In n ns → P (f n)) → All P (map f ns)
all-in P f [] h = All-nil P
all-in P f (n ∷ ns) h = All-cons P (f n) (map f ns) (h n (inl refl)) (all-in P f ns (λ m i. h m (inr i)))

pub all-names : (P : Name → Type 0) (ns : List Name) → ((n : Name) → In n ns → P n) → All P ns
all-names P [] h = All-nil P
all-names P (n ∷ ns) h = All-cons P n ns (h n (inl refl)) (all-names P ns (λ m i. h m (inr i)))

-- each name has R to all later ones
abbrev pub Turns : (Name → Name → Type 0) → List Name → Type 0
Turns R [] = Unit {0}
Turns R (n ∷ ns) = ((m : Name) → In m ns → R n m) × Turns R ns

module _ (R : Name → Name → Type 0) where
  pub turns-append : (ms ns : List Name) → Turns R ms → Turns R ns → ((m n : Name) → In m ms → In n ns → R m n) → Turns R (ms ++ ns)
  turns-append [] ns h k across = k
  turns-append (m ∷ ms) ns h k across = (λ q i. ⊎_elim (λ (a : In q ms). h.0 q a) (λ (b : In q ns). across m q (inl refl) b) (in-append q ms ns i), turns-append ms ns h.1 k (λ a b i j. across a b (inr i) j))

  pub turns-across : (ms ns : List Name) → Turns R (ms ++ ns) → (m n : Name) → In m ms → In n ns → R m n
  turns-across [] ns h m n i j = absurd i
  turns-across (k ∷ ms) ns h m n i j = ⊎_elim
      (λ (e : m ≡ k). subst (λ (y : Name). R y n) (sym e) (h.0 n (in-second n ms ns j)))
      (λ (l : In m ms). turns-across ms ns h.1 m n l j)
      i

  pub turns-rest : (ms ns : List Name) → Turns R (ms ++ ns) → Turns R ns
  turns-rest [] ns h = h
  turns-rest (k ∷ ms) ns h = turns-rest ms ns h.1

  pub turns-filter : (p : Name → Bool) (ns : List Name) → Turns R ns → Turns R (filter p ns)
  turns-filter p [] h = tt
  turns-filter p (n ∷ ns) h = by (turns-filter p ns h.1) (p n)
    where
      by : Turns R (filter p ns) → (b : Bool) → Turns R (cond b (n ∷ filter p ns) (filter p ns))
      by rest true = (λ m i. h.0 m (in-filter p m ns i).0, rest)
      by rest false = rest

  pub turns-more : (Q : Name → Name → Type 0) (ns : List Name) → ((n m : Name) → In n ns → In m ns → R n m → Q n m) → Turns R ns → Turns Q ns
  turns-more Q [] f h = tt
  turns-more Q (n ∷ ns) f h = (λ m i. f n m (inl refl) (inr i) (h.0 m i), turns-more Q ns (λ a b i j. f a b (inr i) (inr j)) h.1)

  pub turns-pairs : (ns : List Name) → Turns R ns → AllPairs R ns
  turns-pairs [] h = no_pairs
    where
      no_pairs : AllPairs R []
      no_pairs i j d low within = absurd (omega (arith, within))
  turns-pairs (n ∷ ns) h = AllPairs-cons R n ns (all-names (R n) ns h.0) (turns-pairs ns h.1)

-- another name than an earlier one
abbrev pub Other : Name → Name → Type 0
Other n m = m ≡ n → ⊥

apart : Less ≡ Equal → ⊥
apart e = cc

-- names in strict order are others
pub sorted-others : (ns : List Name) → IsStrictlySortedBy name_cmp ns → Turns Other ns
unfolding IsStrictlySortedBy
sorted-others [] h = tt
sorted-others (n ∷ ns) h = (λ m i e. apart (sym (each-in (λ (k : Name). name_cmp n k ≡ Less) ns m h.0 i) ∙ ap (name_cmp n) e ∙ tied_itself name_cmp_total n), sorted-others ns h.1)
