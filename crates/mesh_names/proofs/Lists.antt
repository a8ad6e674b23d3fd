-- A set has one list in order.
use Rattle.std.proofs.Common.{◌≡◌, refl, sym, ◌∙◌, subst, List, [], ◌∷◌, inl, inr, ⊎_elim}
use Rattle.std.specs.List.{AllByRecursion}
use Rattle.std.specs.List.Sorted.{IsStrictlySortedBy}
use Rattle.std.specs.Cmp.{tied_itself}
use Rattle.std.specs.declared.cmp.Ordering.TheVariants.{Less, Equal}
use Rattle.mesh_names.specs.Names.{Name, name_cmp}
use Rattle.mesh_names.specs.Order.{name_cmp_total}
use Rattle.mesh_names.specs.Forests.{Names, Has, ListsAreOne}
use Rattle.mesh_names.proofs.Sets.{In, has-in, in-has}

-- every name of a list has what is said of all
pub each-in : (P : Name → Type 0) (ks : List Name) (q : Name) → AllByRecursion P ks → In q ks → P q
each-in P [] q all i = absurd i
each-in P (k ∷ ks) q all i = ⊎_elim (λ (e : q ≡ k). subst P (sym e) all.0) (λ (j : In q ks). each-in P ks q all.1 j) i

apart : Less ≡ Equal → ⊥
apart e = cc

not_below : (n : Name) → name_cmp n n ≡ Less → ⊥
not_below n e = apart (sym e ∙ tied_itself name_cmp_total n)

-- two lists in order that have the same names
same_lists : (xs ys : List Name) → IsStrictlySortedBy name_cmp xs → IsStrictlySortedBy name_cmp ys → ((q : Name) → In q xs → In q ys) → ((q : Name) → In q ys → In q xs) → xs ≡ ys
unfolding IsStrictlySortedBy
same_lists [] [] h k f g = refl
same_lists [] (y ∷ ys) h k f g = absurd (g y (inl refl))
same_lists (x ∷ xs) [] h k f g = absurd (f x (inl refl))
same_lists (x ∷ xs) (y ∷ ys) h k f g =
    let after_x = λ (q : Name) (i : In q xs). each-in (λ (n : Name). name_cmp x n ≡ Less) xs q h.0 i in
    let after_y = λ (q : Name) (i : In q ys). each-in (λ (n : Name). name_cmp y n ≡ Less) ys q k.0 i in
    let head : x ≡ y = ⊎_elim
    (λ (e : x ≡ y). e)
    (λ (i : In x ys). ⊎_elim (λ (e : y ≡ x). sym e) (λ (j : In y xs). absurd (not_below x (name_cmp_total.trans x y x (after_x y j) (after_y x i)))) (g y (inl refl)))
    (f x (inl refl)) in
    let rest : xs ≡ ys = same_lists xs ys h.1 k.1
    (λ q i. ⊎_elim (λ (e : q ≡ y). absurd (not_below x (after_x x (subst (λ (n : Name). In n xs) (e ∙ sym head) i)))) (λ (j : In q ys). j) (f q (inr i)))
    (λ q i. ⊎_elim (λ (e : q ≡ x). absurd (not_below y (after_y y (subst (λ (n : Name). In n ys) (e ∙ head) i)))) (λ (j : In q xs). j) (g q (inr i))) in
    λ i. head i ∷ rest i

pub lists_are_one : ListsAreOne
lists_are_one names a b has_a has_b = same_lists a b has_a.in_order has_b.in_order
    (λ q i. has-in q b (subst (λ (s : Names). Has s q) (has_a.all ∙ sym has_b.all) (in-has q a i)))
    (λ q i. has-in q a (subst (λ (s : Names). Has s q) (has_b.all ∙ sym has_a.all) (in-has q b i)))
