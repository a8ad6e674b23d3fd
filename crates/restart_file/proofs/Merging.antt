-- The merge of two lists in order.
use mir.Val.{bool_byte}
use Rattle.std.proofs.Common.{◌≡◌, ◌⊎◌, ℕ, suc, ◌+◌, ◌-◌, ◌<◌, ◌≤◌, cond, refl, sym, ap, ◌∙◌, subst, List, [], ◌∷◌, ◌++◌, length, drop, arith, inl, inr, ⊎_elim, append_assoc, get_or, drop-cons, take, length-drop}
use Rattle.std.proofs.lemmas.List.{drop_all, take_all}
use Rattle.std.specs.List.{AllByRecursion}
use Rattle.std.specs.List.Sorted.{IsStrictlySortedBy}
use Rattle.std.specs.Ordering.{is_gt, is_le, is_ge, ordering_reverse}
use Rattle.std.specs.declared.cmp.Ordering.{Ordering}
use Rattle.std.specs.declared.cmp.Ordering.TheVariants.{Less, Equal, Greater}
use Rattle.mesh_names.specs.Names.{Name, name_cmp}
use Rattle.mesh_names.specs.Order.{name_cmp_total, name_cmp-same}
use Rattle.mesh_names.proofs.Sets.{In}
use Rattle.mesh_names.proofs.Lists.{each-in}
use Rattle.restart_file.specs.Merges.{Begins, IsBeforeFirst, IsMerge}

pub all_in : (P : Name → Type 0) (ks : List Name) → ((q : Name) → In q ks → P q) → AllByRecursion P ks
all_in P [] f = tt
all_in P (k ∷ ks) f = (f k (inl refl), all_in P ks (λ q i. f q (inr i)))

-- ---- what is left of one list is the rest of the merge
pub rest_first : (xs : List Name) → IsMerge xs xs []
rest_first [] = (refl, refl)
rest_first (x ∷ xs) = inl (xs, refl, tt, rest_first xs)

pub rest_second : (ys : List Name) → IsMerge ys [] ys
rest_second [] = (refl, refl)
rest_second (y ∷ ys) = inr (inl (ys, refl, tt, rest_second ys))

-- ---- after some steps: what goes on as a merge of the rests is a merge of the whole
abbrev pub IsUnder : List Name → List Name → ℕ → ℕ → List Name → Type 0
IsUnder first second i j both = (rest : List Name) → IsMerge rest (drop i first) (drop j second) → IsMerge (both ++ rest) first second

after : (both rest : List Name) (n : Name) (first second : List Name) → IsMerge (both ++ n ∷ rest) first second → IsMerge ((both ++ n ∷ []) ++ rest) first second
after both rest n first second h = subst (λ (l : List Name). IsMerge l first second) (sym (append_assoc both (n ∷ []) rest)) h

module _ (first second : List Name) (i j : ℕ) (both : List Name) (under : IsUnder first second i j both) (a b : Name) (at_first : drop i first ≡ a ∷ drop (suc i) first) (at_second : drop j second ≡ b ∷ drop (suc j) second) where
  pub less : name_cmp a b ≡ Less → IsUnder first second (suc i) j (both ++ a ∷ [])
  less e rest m = after both rest a first second (under (a ∷ rest) (inl (drop (suc i) first, at_first, subst (λ (l : List Name). IsBeforeFirst a l) (sym at_second) e, m)))

  pub greater : name_cmp a b ≡ Greater → IsUnder first second i (suc j) (both ++ b ∷ [])
  greater e rest m =
      let turned : name_cmp b a ≡ Less = name_cmp_total.antisymm b a ∙ ap ordering_reverse e in
      after both rest b first second (under (b ∷ rest) (inr (inl (drop (suc j) second, at_second, subst (λ (l : List Name). IsBeforeFirst b l) (sym at_first) turned, m))))

  pub equal : name_cmp a b ≡ Equal → IsUnder first second (suc i) (suc j) (both ++ a ∷ [])
  equal e rest m =
      let same : b ≡ a = sym (name_cmp-same a b e) in
      after both rest a first second (under (a ∷ rest) (inr (inr (drop (suc i) first, drop (suc j) second, at_first, at_second ∙ ap (λ (n : Name). n ∷ drop (suc j) second) same, m))))

-- at the end one list is used up
pub ends : (first second : List Name) (i j : ℕ) (both : List Name) → IsUnder first second i j both → (length first ≤ i) ⊎ (length second ≤ j) → IsMerge ((both ++ drop i first) ++ drop j second) first second
ends first second i j both under h = ⊎_elim
    (λ (p : length first ≤ i).
    let none : drop i first ≡ [] = drop_all i first p in
    let m : IsMerge (both ++ (drop i first ++ drop j second)) first second = under (drop i first ++ drop j second) (subst (λ (l : List Name). IsMerge (l ++ drop j second) l (drop j second)) (sym none) (rest_second (drop j second))) in
    subst (λ (l : List Name). IsMerge l first second) (sym (append_assoc both (drop i first) (drop j second))) m)
    (λ (p : length second ≤ j).
    let none : drop j second ≡ [] = drop_all j second p in
    let m : IsMerge (both ++ (drop i first ++ drop j second)) first second = under (drop i first ++ drop j second) (subst (λ (l : List Name). IsMerge (drop i first ++ l) (drop i first) l) (sym none) (subst (λ (l : List Name). IsMerge l (drop i first) []) (sym (appended (drop i first))) (rest_first (drop i first)))) in
    subst (λ (l : List Name). IsMerge l first second) (sym (append_assoc both (drop i first) (drop j second))) m)
    h
  where
    appended : (l : List Name) → l ++ [] ≡ l
    appended [] = refl
    appended (x ∷ l) = ap (λ (t : List Name). x ∷ t) (appended l)

-- ---- the merge has the names of both lists, in order
pub from_either : (zs xs ys : List Name) → IsMerge zs xs ys → (q : Name) → In q zs → In q xs ⊎ In q ys
from_either [] xs ys h q i = absurd i
from_either (z ∷ zs) xs ys h q i = ⊎_elim
    (λ (a : (r : List Name) × Begins z xs r × IsBeforeFirst z ys × IsMerge zs r ys). subst (λ (l : List Name). In q l ⊎ In q ys) (sym a.1)
    (⊎_elim (λ (e : q ≡ z). inl (inl e)) (λ (k : In q zs). ⊎_elim (λ (u : In q a.0). inl (inr u)) (λ (v : In q ys). inr v) (from_either zs a.0 ys a.3 q k)) i))
    (λ b. ⊎_elim
    (λ (a : (r : List Name) × Begins z ys r × IsBeforeFirst z xs × IsMerge zs xs r). subst (λ (l : List Name). In q xs ⊎ In q l) (sym a.1)
    (⊎_elim (λ (e : q ≡ z). inr (inl e)) (λ (k : In q zs). ⊎_elim (λ (u : In q xs). inl u) (λ (v : In q a.0). inr (inr v)) (from_either zs xs a.0 a.3 q k)) i))
    (λ (a : (r : List Name) × (s : List Name) × Begins z xs r × Begins z ys s × IsMerge zs r s). subst (λ (l : List Name). In q l ⊎ In q ys) (sym a.2) (subst (λ (l : List Name). In q (z ∷ a.0) ⊎ In q l) (sym a.3)
    (⊎_elim (λ (e : q ≡ z). inl (inl e)) (λ (k : In q zs). ⊎_elim (λ (u : In q a.0). inl (inr u)) (λ (v : In q a.1). inr (inr v)) (from_either zs a.0 a.1 a.4 q k)) i)))
    b)
    h

pub from_first : (zs xs ys : List Name) → IsMerge zs xs ys → (q : Name) → In q xs → In q zs
from_first [] xs ys h q i = subst (λ (l : List Name). In q l) h.0 i
from_first (z ∷ zs) xs ys h q i = ⊎_elim
    (λ (a : (r : List Name) × Begins z xs r × IsBeforeFirst z ys × IsMerge zs r ys). ⊎_elim (λ (e : q ≡ z). inl e) (λ (k : In q a.0). inr (from_first zs a.0 ys a.3 q k)) (subst (λ (l : List Name). In q l) a.1 i))
    (λ b. ⊎_elim
    (λ (a : (r : List Name) × Begins z ys r × IsBeforeFirst z xs × IsMerge zs xs r). inr (from_first zs xs a.0 a.3 q i))
    (λ (a : (r : List Name) × (s : List Name) × Begins z xs r × Begins z ys s × IsMerge zs r s). ⊎_elim (λ (e : q ≡ z). inl e) (λ (k : In q a.0). inr (from_first zs a.0 a.1 a.4 q k)) (subst (λ (l : List Name). In q l) a.2 i))
    b)
    h

pub from_second : (zs xs ys : List Name) → IsMerge zs xs ys → (q : Name) → In q ys → In q zs
from_second [] xs ys h q i = subst (λ (l : List Name). In q l) h.1 i
from_second (z ∷ zs) xs ys h q i = ⊎_elim
    (λ (a : (r : List Name) × Begins z xs r × IsBeforeFirst z ys × IsMerge zs r ys). inr (from_second zs a.0 ys a.3 q i))
    (λ b. ⊎_elim
    (λ (a : (r : List Name) × Begins z ys r × IsBeforeFirst z xs × IsMerge zs xs r). ⊎_elim (λ (e : q ≡ z). inl e) (λ (k : In q a.0). inr (from_second zs xs a.0 a.3 q k)) (subst (λ (l : List Name). In q l) a.1 i))
    (λ (a : (r : List Name) × (s : List Name) × Begins z xs r × Begins z ys s × IsMerge zs r s). ⊎_elim (λ (e : q ≡ z). inl e) (λ (k : In q a.1). inr (from_second zs a.0 a.1 a.4 q k)) (subst (λ (l : List Name). In q l) a.3 i))
    b)
    h

abbrev Sorted : List Name → Type 0
Sorted ks = IsStrictlySortedBy name_cmp ks

pub behind : (z : Name) (ks : List Name) → Sorted (z ∷ ks) → (q : Name) → In q ks → name_cmp z q ≡ Less
unfolding IsStrictlySortedBy
behind z ks s q i = each-in (λ (n : Name). name_cmp z n ≡ Less) ks q s.0 i

pub behind_first : (z : Name) (ks : List Name) → IsBeforeFirst z ks → Sorted ks → (q : Name) → In q ks → name_cmp z q ≡ Less
behind_first z [] b s q i = absurd i
behind_first z (k ∷ ks) b s q i = ⊎_elim (λ (e : q ≡ k). subst (λ (n : Name). name_cmp z n ≡ Less) (sym e) b) (λ (j : In q ks). name_cmp_total.trans z k q b (behind k ks s q j)) i

pub tail_sorted : (z : Name) (ks : List Name) → Sorted (z ∷ ks) → Sorted ks
unfolding IsStrictlySortedBy
tail_sorted z ks s = s.1

pub cons_sorted : (z : Name) (ks : List Name) → ((q : Name) → In q ks → name_cmp z q ≡ Less) → Sorted ks → Sorted (z ∷ ks)
unfolding IsStrictlySortedBy
cons_sorted z ks f s = (all_in (λ (q : Name). name_cmp z q ≡ Less) ks f, s)

pub empty_sorted : Sorted []
unfolding IsStrictlySortedBy
empty_sorted = tt

pub merge_sorted : (zs xs ys : List Name) → IsMerge zs xs ys → Sorted xs → Sorted ys → Sorted zs
merge_sorted [] xs ys h s t = empty_sorted
merge_sorted (z ∷ zs) xs ys h s t = ⊎_elim
    (λ (a : (r : List Name) × Begins z xs r × IsBeforeFirst z ys × IsMerge zs r ys).
    let s2 : Sorted (z ∷ a.0) = subst Sorted a.1 s in
    cons_sorted z zs (λ q i. ⊎_elim (λ (u : In q a.0). behind z a.0 s2 q u) (λ (v : In q ys). behind_first z ys a.2 t q v) (from_either zs a.0 ys a.3 q i)) (merge_sorted zs a.0 ys a.3 (tail_sorted z a.0 s2) t))
    (λ b. ⊎_elim
    (λ (a : (r : List Name) × Begins z ys r × IsBeforeFirst z xs × IsMerge zs xs r).
    let t2 : Sorted (z ∷ a.0) = subst Sorted a.1 t in
    cons_sorted z zs (λ q i. ⊎_elim (λ (u : In q xs). behind_first z xs a.2 s q u) (λ (v : In q a.0). behind z a.0 t2 q v) (from_either zs xs a.0 a.3 q i)) (merge_sorted zs xs a.0 a.3 s (tail_sorted z a.0 t2)))
    (λ (a : (r : List Name) × (s : List Name) × Begins z xs r × Begins z ys s × IsMerge zs r s).
    let s2 : Sorted (z ∷ a.0) = subst Sorted a.2 s in
    let t2 : Sorted (z ∷ a.1) = subst Sorted a.3 t in
    cons_sorted z zs (λ q i. ⊎_elim (λ (u : In q a.0). behind z a.0 s2 q u) (λ (v : In q a.1). behind z a.1 t2 q v) (from_either zs a.0 a.1 a.4 q i)) (merge_sorted zs a.0 a.1 a.4 (tail_sorted z a.0 s2) (tail_sorted z a.1 t2)))
    b)
    h

pub merge_short : (zs xs ys : List Name) → IsMerge zs xs ys → length zs ≤ length xs + length ys
merge_short [] xs ys h = omega arith
merge_short (z ∷ zs) xs ys h = ⊎_elim
    (λ (a : (r : List Name) × Begins z xs r × IsBeforeFirst z ys × IsMerge zs r ys). let e : length xs ≡ suc (length a.0) = ap length a.1 in let k = merge_short zs a.0 ys a.3 in omega arith)
    (λ b. ⊎_elim
    (λ (a : (r : List Name) × Begins z ys r × IsBeforeFirst z xs × IsMerge zs xs r). let e : length ys ≡ suc (length a.0) = ap length a.1 in let k = merge_short zs xs a.0 a.3 in omega arith)
    (λ (a : (r : List Name) × (s : List Name) × Begins z xs r × Begins z ys s × IsMerge zs r s). let e : length xs ≡ suc (length a.0) = ap length a.2 in let f : length ys ≡ suc (length a.1) = ap length a.3 in let k = merge_short zs a.0 a.1 a.4 in omega arith)
    b)
    h

-- one step of the merge, whatever the order of the two names is
pub step : (first second : List Name) (i j k l : ℕ) (both next : List Name) (a b n : Name) → IsUnder first second i j both → i < length first → j < length second →
    a ≡ get_or first i a → b ≡ get_or second j b → (o : Ordering) → o ≡ name_cmp a b → n ≡ cond (is_gt o) b a → k ≡ i + bool_byte (is_le o) → l ≡ j + bool_byte (is_ge o) → next ≡ both ++ n ∷ [] → IsUnder first second k l next
step first second i j k l both next a b n under hi hj ea eb o eo en ek el ex =
    let at_first : drop i first ≡ a ∷ drop (suc i) first = drop-cons first i a hi ∙ ap (λ (x : Name). x ∷ drop (suc i) first) (sym ea) in
    let at_second : drop j second ≡ b ∷ drop (suc j) second = drop-cons second j b hj ∙ ap (λ (x : Name). x ∷ drop (suc j) second) (sym eb) in
    subst (λ (x : List Name). IsUnder first second k l x) (sym ex) (by at_first at_second o eo en ek el)
  where
    moved : (m : Name) (p q : ℕ) → k ≡ p → l ≡ q → n ≡ m → IsUnder first second p q (both ++ m ∷ []) → IsUnder first second k l (both ++ n ∷ [])
    moved m p q e f g h = subst (λ (x : Name). IsUnder first second k l (both ++ x ∷ [])) (sym g) (subst (λ (x : ℕ). IsUnder first second x l (both ++ m ∷ [])) (sym e) (subst (λ (x : ℕ). IsUnder first second p x (both ++ m ∷ [])) (sym f) h))

    by : drop i first ≡ a ∷ drop (suc i) first → drop j second ≡ b ∷ drop (suc j) second → (r : Ordering) → r ≡ name_cmp a b → n ≡ cond (is_gt r) b a → k ≡ i + bool_byte (is_le r) → l ≡ j + bool_byte (is_ge r) → IsUnder first second k l (both ++ n ∷ [])
    by u v Less er fn fk fl = let x : k ≡ suc i = omega arith in let y : l ≡ j = omega arith in moved a (suc i) j x y fn (less first second i j both under a b u v (sym er))
    by u v Equal er fn fk fl = let x : k ≡ suc i = omega arith in let y : l ≡ suc j = omega arith in moved a (suc i) (suc j) x y fn (equal first second i j both under a b u v (sym er))
    by u v Greater er fn fk fl = let x : k ≡ i = omega arith in let y : l ≡ suc j = omega arith in moved b i (suc j) x y fn (greater first second i j both under a b u v (sym er))

-- both places stay within, and one of them goes on
pub onward : (i j k l m n : ℕ) (o : Ordering) → i < m → j < n → k ≡ i + bool_byte (is_le o) → l ≡ j + bool_byte (is_ge o) → (k ≤ m) × (l ≤ n) × ((m - k) + (n - l) < (m - i) + (n - j))
onward i j k l m n Less hi hj ek el = (omega arith, omega arith, omega arith)
onward i j k l m n Equal hi hj ek el = (omega arith, omega arith, omega arith)
onward i j k l m n Greater hi hj ek el = (omega arith, omega arith, omega arith)

-- a range of a list up to its end
whole : (i : ℕ) (xs : List Name) → take (length xs - i) (drop i xs) ≡ drop i xs
whole i xs = let e : length (drop i xs) ≡ length xs - i = length-drop i xs in take_all (length xs - i) (drop i xs) (omega arith)

pub appended : (both first second : List Name) (i j : ℕ) (x y : List Name) → x ≡ both ++ take (length first - i) (drop i first) → y ≡ x ++ take (length second - j) (drop j second) → y ≡ (both ++ drop i first) ++ drop j second
appended both first second i j x y p q = q ∙ (λ k. (p ∙ ap (λ (l : List Name). both ++ l) (whole i first)) k ++ whole j second k)
