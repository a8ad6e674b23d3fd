-- The order of names near a name and its children.
use Rattle.std.proofs.Common.{◌≡◌, ◌⊎◌, ℕ, ◌<◌, Bool, true, false, List, [], ◌∷◌, ◌++◌, reverse, refl, sym, ap, subst, ◌∙◌, arith, inl, inr, ⊎_elim, nat_cmp, append_assoc}
use Rattle.std.proofs.lemmas.List.{reverse-append, reverse-reverse}
use Rattle.std.specs.Cmp.{nat_cmp_is}
use Rattle.std.specs.Cmp.Lexicographic.{slice_cmp}
use Rattle.std.specs.Ordering.{bool_cmp, ordering_then}
use Rattle.std.specs.declared.cmp.Ordering.{Ordering}
use Rattle.std.specs.declared.cmp.Ordering.TheVariants.{Less, Equal, Greater}
use Rattle.std.proofs.lemmas.Bool.{cases_lt}
use Rattle.mesh_names.specs.Names.{Name, name_cmp}
use Rattle.std.specs.FinSet.{nat_cmp-IsAntisymmetric}
use Rattle.locate_point.specs.Locating.{IsAtMost}

abbrev IsLow : List Bool → List Bool → Type 0
IsLow xs ys = slice_cmp bool_cmp xs ys ≡ Greater → ⊥

-- nothing comes between a word and its first child
low_child : (xs ys : List Bool) → IsLow xs ys → (xs ≡ ys → ⊥) → IsLow (xs ++ false ∷ []) ys
low_child [] [] h apart e = apart refl
low_child [] (true ∷ ys) h apart e = absurd (cc)
low_child [] (false ∷ []) h apart e = absurd (cc)
low_child [] (false ∷ y ∷ ys) h apart e = absurd (cc)
low_child (x ∷ xs) [] h apart e = h refl
low_child (true ∷ xs) (true ∷ ys) h apart e = low_child xs ys h (λ s. apart (ap (λ w. true ∷ w) s)) e
low_child (false ∷ xs) (false ∷ ys) h apart e = low_child xs ys h (λ s. apart (ap (λ w. false ∷ w) s)) e
low_child (true ∷ xs) (false ∷ ys) h apart e = h refl
low_child (false ∷ xs) (true ∷ ys) h apart e = absurd (cc)

-- between a word and its second child there is only what stands below the first
high_child : (xs ys : List Bool) → IsLow xs ys → (xs ≡ ys → ⊥) → IsLow (xs ++ true ∷ []) ys ⊎ ((zs : List Bool) × (ys ≡ xs ++ false ∷ zs))
high_child [] [] h apart = absurd (apart refl)
high_child [] (true ∷ []) h apart = inl (λ e. absurd (cc))
high_child [] (true ∷ y ∷ ys) h apart = inl (λ e. absurd (cc))
high_child [] (false ∷ ys) h apart = inr (ys, refl)
high_child (x ∷ xs) [] h apart = absurd (h refl)
high_child (true ∷ xs) (true ∷ ys) h apart = ⊎_elim (λ low. inl low) (λ (p : (zs : List Bool) × (ys ≡ xs ++ false ∷ zs)). inr (p.0, ap (λ w. true ∷ w) p.1)) (high_child xs ys h (λ s. apart (ap (λ w. true ∷ w) s)))
high_child (false ∷ xs) (false ∷ ys) h apart = ⊎_elim (λ low. inl low) (λ (p : (zs : List Bool) × (ys ≡ xs ++ false ∷ zs)). inr (p.0, ap (λ w. false ∷ w) p.1)) (high_child xs ys h (λ s. apart (ap (λ w. false ∷ w) s)))
high_child (true ∷ xs) (false ∷ ys) h apart = absurd (h refl)
high_child (false ∷ xs) (true ∷ ys) h apart = inl (λ e. absurd (cc))

-- an empty word comes first
low_empty : (ys : List Bool) → IsLow [] ys
low_empty [] e = absurd (cc)
low_empty (y ∷ ys) e = absurd (cc)

-- a comparison that is not greater, root by root
low_tail : (o q : Ordering) → (ordering_then o q ≡ Greater → ⊥) → (o ≡ Less) ⊎ ((o ≡ Equal) × (q ≡ Greater → ⊥))
low_tail Less q h = inl refl
low_tail Equal q h = inr (refl, h)
low_tail Greater q h = absurd (h refl)

low_less : (o q : Ordering) → o ≡ Less → ordering_then o q ≡ Greater → ⊥
low_less Less q e f = absurd (cc)
low_less Equal q e f = absurd (cc)
low_less Greater q e f = absurd (cc)

low_equal : (o q : Ordering) → o ≡ Equal → (q ≡ Greater → ⊥) → ordering_then o q ≡ Greater → ⊥
low_equal Less q e h f = absurd (cc)
low_equal Equal q e h f = h f
low_equal Greater q e h f = absurd (cc)

child_word : (w : List Bool) (b : Bool) → reverse (b ∷ w) ≡ reverse w ++ b ∷ []
child_word w b = reverse-append (b ∷ []) w

words_apart : (n m : Name) → n.0 ≡ m.0 → (n ≡ m → ⊥) → reverse n.1 ≡ reverse m.1 → ⊥
words_apart n m e apart words = apart (λ i. (e i, (sym (reverse-reverse n.1) ∙ ap reverse words ∙ reverse-reverse m.1) i))

-- nothing comes between a name and its child 0
pub first_child_low : (n m : Name) → IsAtMost n m → (n ≡ m → ⊥) → IsAtMost (n.0, false ∷ n.1) m
first_child_low n m low apart = ⊎_elim
    (λ less. low_less (nat_cmp n.0 m.0) (slice_cmp bool_cmp (reverse (false ∷ n.1)) (reverse m.1)) less)
    (λ (same : (nat_cmp n.0 m.0 ≡ Equal) × (slice_cmp bool_cmp (reverse n.1) (reverse m.1) ≡ Greater → ⊥)).
    low_equal (nat_cmp n.0 m.0) (slice_cmp bool_cmp (reverse (false ∷ n.1)) (reverse m.1)) same.0
    (subst (λ (w : List Bool). IsLow w (reverse m.1)) (sym (child_word n.1 false)) (low_child (reverse n.1) (reverse m.1) same.1 (words_apart n m (nat_cmp-IsAntisymmetric n.0 m.0 same.0) apart))))
    (low_tail (nat_cmp n.0 m.0) (slice_cmp bool_cmp (reverse n.1) (reverse m.1)) low)

-- between a name and its child 1 there are only child 0 and what lies below it
pub second_child_low : (n m : Name) → IsAtMost n m → (n ≡ m → ⊥) → IsAtMost (n.0, true ∷ n.1) m ⊎ ((w : List Bool) × (m ≡ (n.0, w ++ false ∷ n.1)))
second_child_low n m low apart = ⊎_elim
    (λ less. inl (low_less (nat_cmp n.0 m.0) (slice_cmp bool_cmp (reverse (true ∷ n.1)) (reverse m.1)) less))
    (λ (same : (nat_cmp n.0 m.0 ≡ Equal) × (slice_cmp bool_cmp (reverse n.1) (reverse m.1) ≡ Greater → ⊥)).
    let roots : n.0 ≡ m.0 = nat_cmp-IsAntisymmetric n.0 m.0 same.0 in
    ⊎_elim
    (λ l. inl (low_equal (nat_cmp n.0 m.0) (slice_cmp bool_cmp (reverse (true ∷ n.1)) (reverse m.1)) same.0 (subst (λ (w : List Bool). IsLow w (reverse m.1)) (sym (child_word n.1 true)) l)))
    (λ (below : (zs : List Bool) × (reverse m.1 ≡ reverse n.1 ++ false ∷ zs)). inr (reverse below.0, λ i. (sym roots i, lower n.1 m.1 below.0 below.1 i)))
    (high_child (reverse n.1) (reverse m.1) same.1 (words_apart n m roots apart)))
    (low_tail (nat_cmp n.0 m.0) (slice_cmp bool_cmp (reverse n.1) (reverse m.1)) low)
  where
    lower : (v w zs : List Bool) → reverse w ≡ reverse v ++ false ∷ zs → w ≡ reverse zs ++ false ∷ v
    lower v w zs e = sym (reverse-reverse w) ∙ ap reverse e ∙ reverse-append (reverse v) (false ∷ zs) ∙ (λ i. reverse-append (false ∷ []) zs i ++ reverse-reverse v i) ∙ append_assoc (reverse zs) (false ∷ []) v

-- a macro element comes before what lies below it and below later ones
pub top_low : (r : ℕ) (m : Name) → (m.0 < r → ⊥) → IsAtMost (r, []) m
top_low r m h = ⊎_elim
    (λ less. low_less (nat_cmp r m.0) (slice_cmp bool_cmp [] (reverse m.1)) (sym (nat_cmp_is r m.0 Less less)))
    (λ more. low_equal (nat_cmp r m.0) (slice_cmp bool_cmp [] (reverse m.1)) (sym (nat_cmp_is r m.0 Equal (omega (arith, more, h)))) (low_empty (reverse m.1)))
    (cases_lt r m.0)

less_longer : (xs : List Bool) (b : Bool) → slice_cmp bool_cmp xs (xs ++ b ∷ []) ≡ Less
less_longer [] b = refl
less_longer (true ∷ xs) b = less_longer xs b
less_longer (false ∷ xs) b = less_longer xs b

-- a name comes before its children
pub child_later : (n : Name) (b : Bool) → name_cmp n (n.0, b ∷ n.1) ≡ Less
child_later n b =
    let words : slice_cmp bool_cmp (reverse n.1) (reverse (b ∷ n.1)) ≡ Less = subst (λ (w : List Bool). slice_cmp bool_cmp (reverse n.1) w ≡ Less) (sym (child_word n.1 b)) (less_longer (reverse n.1) b) in
    ap (λ o. ordering_then o (slice_cmp bool_cmp (reverse n.1) (reverse (b ∷ n.1)))) (sym (nat_cmp_is n.0 n.0 Equal refl)) ∙ words
