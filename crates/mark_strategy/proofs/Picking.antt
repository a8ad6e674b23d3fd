-- The leaves that are picked in the order of names are those at the front of the ranked ones.
use Rattle.std.proofs.Common.{◌≡◌, ◌⊎◌, ℕ, zero, suc, ◌+◌, ◌-◌, ◌<◌, ◌≤◌, Bool, true, false, cond, eqb, ltb, ◌&&◌, ◌||◌, List, [], ◌∷◌, length, map, take, count_by, refl, sym, ap, ◌∙◌, subst, ⊎_elim, arith}
use Rattle.std.specs.List.{AllByRecursion, prefix_len, sum_by}
use Rattle.std.specs.List.Sorted.{IsPermutation, IsStrictlySortedBy}
use Rattle.std.specs.declared.cmp.Ordering.TheVariants.{Less}
use Rattle.std.proofs.lemmas.Bool.{cases_Bool, cases_lt, cases_order, ltb-true, ltb-false, lt-ltb, le-ltb, eq-eqb, ne_eqb}
use Rattle.std.proofs.lemmas.List.Sorted.{IsPermutation-refl, IsPermutation-sym, IsPermutation-trans, IsPermutation-cons, sum_by-IsPermutation}
use Rattle.std.proofs.lemmas.List.Sums.{sum_by-cons, sum_by-le-sum_by}
use Rattle.mesh_names.specs.Names.{Name, name_cmp}
use Rattle.mark_strategy.specs.Leaves.{Leaf, names_of, size_of}
use Rattle.mark_strategy.specs.Picks.{is_picked, picked, ties_after}
use Rattle.mark_strategy.proofs.Ranking.{front-count, is_above, placed, placed-same, rank, rank-falls, rank-same, take-placed_after, take-placed_in}

-- a leaf of this size
abbrev pub is_at : ℕ → Leaf → Bool
is_at n y = eqb (size_of y) n

-- the leaves above a size stand in front of the ranked ones
pub front_of : (n : ℕ) (xs : List Leaf) → prefix_len (is_above n) (rank xs) ≡ count_by (is_above n) xs
front_of n xs = front-count n (rank xs) (rank-falls xs) ∙ sum_by-IsPermutation (λ (y : Leaf). cond (is_above n y) 1 0) xs (rank xs) (rank-same xs)

-- fewer leaves are above a larger size
fewer_above : (m n : ℕ) → m ≤ n → (xs : List Leaf) → count_by (is_above n) xs ≤ count_by (is_above m) xs
fewer_above m n l xs = sum_by-le-sum_by (λ (y : Leaf). cond (is_above n y) 1 0) (λ (y : Leaf). cond (is_above m y) 1 0) xs (λ y. ⊎_elim
    (λ (k : n < size_of y).
    let a = ap {B = ℕ} (λ (b : Bool). cond b 1 0) (lt-ltb n (size_of y) k) in
    let c = ap {B = ℕ} (λ (b : Bool). cond b 1 0) (lt-ltb m (size_of y) (omega (arith, k, l))) in
    omega (arith, a, c))
    (λ (k : size_of y ≤ n). let a = ap {B = ℕ} (λ (b : Bool). cond b 1 0) (le-ltb n (size_of y) k) in omega (arith, a))
    (cases_lt n (size_of y)))

-- those above a size and those of this size are above a smaller one
at_and_above : (m n : ℕ) → m < n → (xs : List Leaf) → count_by (is_above n) xs + count_by (is_at n) xs ≤ count_by (is_above m) xs
at_and_above m n l [] = omega arith
at_and_above m n l (x ∷ xs) =
    let a = sum_by-cons (λ (y : Leaf). cond (is_above n y) 1 0) x xs in
    let b = sum_by-cons (λ (y : Leaf). cond (is_at n y) 1 0) x xs in
    let c = sum_by-cons (λ (y : Leaf). cond (is_above m y) 1 0) x xs in
    let rest = at_and_above m n l xs in
    let first = here in
    omega (arith, a, b, c, rest, first)
  where
    here : cond (is_above n x) 1 0 + cond (is_at n x) 1 0 ≤ cond (is_above m x) 1 0
    here = ⊎_elim
        (λ (k : n < size_of x).
        let a = ap {B = ℕ} (λ (b : Bool). cond b 1 0) (lt-ltb n (size_of x) k) in
        let b = ap {B = ℕ} (λ (b : Bool). cond b 1 0) (ne_eqb (size_of x) n (λ e. omega (arith, e, k))) in
        let c = ap {B = ℕ} (λ (b : Bool). cond b 1 0) (lt-ltb m (size_of x) (omega (arith, k, l))) in
        omega (arith, a, b, c))
        (λ (k : size_of x ≤ n).
        let a = ap {B = ℕ} (λ (b : Bool). cond b 1 0) (le-ltb n (size_of x) k) in
        ⊎_elim
        (λ (q : m < size_of x). let c = ap {B = ℕ} (λ (b : Bool). cond b 1 0) (lt-ltb m (size_of x) q) in let d = at_most (is_at n x) in omega (arith, a, c, d))
        (λ (q : size_of x ≤ m). let b = ap {B = ℕ} (λ (b : Bool). cond b 1 0) (ne_eqb (size_of x) n (λ e. omega (arith, e, q, l))) in omega (arith, a, b))
        (cases_lt m (size_of x)))
        (cases_lt n (size_of x))
      where
        at_most : (b : Bool) → cond b 1 0 ≤ 1
        at_most true = omega arith
        at_most false = omega arith

-- a leaf that is picked belongs to the front
with_first : (x : Leaf) (xs chosen : List Leaf) (k : ℕ) → count_by (is_above (size_of x)) xs ≤ k → IsPermutation (take k (rank xs)) chosen → IsPermutation (take (suc k) (placed x (rank xs))) (x ∷ chosen)
with_first x xs chosen k l h = subst (λ (zs : List Leaf). IsPermutation zs (x ∷ chosen)) (sym (take-placed_in x (rank xs) k (let e = front_of (size_of x) xs in omega (arith, e, l))))
    (IsPermutation-trans (placed x (take k (rank xs))) (x ∷ take k (rank xs)) (x ∷ chosen)
    (IsPermutation-sym (x ∷ take k (rank xs)) (placed x (take k (rank xs))) (placed-same x (take k (rank xs))))
    (IsPermutation-cons x (take k (rank xs)) chosen h))

-- one that is not picked does not
without_first : (x : Leaf) (xs chosen : List Leaf) (k : ℕ) → k ≤ count_by (is_above (size_of x)) xs → IsPermutation (take k (rank xs)) chosen → IsPermutation (take k (placed x (rank xs))) chosen
without_first x xs chosen k l h = subst (λ (zs : List Leaf). IsPermutation zs chosen) (sym (take-placed_after x (rank xs) k (let e = front_of (size_of x) xs in omega (arith, e, l)))) h

-- what is picked from a list whose first leaf is picked, or is not
picks : (size ties : ℕ) (x : Leaf) (xs : List Leaf) (left : ℕ) → is_picked size ties x ≡ true → ties_after size ties x ≡ left → picked size ties (x ∷ xs) ≡ x ∷ picked size left xs
picks size ties x xs left p e = ap (λ (b : Bool). cond b (x ∷ picked size (ties_after size ties x) xs) (picked size (ties_after size ties x) xs)) p ∙ ap (λ (n : ℕ). x ∷ picked size n xs) e

passes : (size ties : ℕ) (x : Leaf) (xs : List Leaf) (left : ℕ) → is_picked size ties x ≡ false → ties_after size ties x ≡ left → picked size ties (x ∷ xs) ≡ picked size left xs
passes size ties x xs left p e = ap (λ (b : Bool). cond b (x ∷ picked size (ties_after size ties x) xs) (picked size (ties_after size ties x) xs)) p ∙ ap (λ (n : ℕ). picked size n xs) e

-- a front of another length
at_length : (xs chosen : List Leaf) (j k : ℕ) → j ≡ k → IsPermutation (take j xs) chosen → IsPermutation (take k xs) chosen
at_length xs chosen j k e h = subst (λ (n : ℕ). IsPermutation (take n xs) chosen) e h

pub picked-front : (size ties : ℕ) (xs : List Leaf) → ties ≤ count_by (is_at size) xs → IsPermutation (take (count_by (is_above size) xs + ties) (rank xs)) (picked size ties xs)
picked-front size ties [] h = subst (λ (zs : List Leaf). IsPermutation zs []) (nothing (count_by (is_above size) [] + ties)) (IsPermutation-refl [])
  where
    nothing : (k : ℕ) → ◌≡◌ {A = List Leaf} [] (take k [])
    nothing zero = refl
    nothing (suc k) = refl
picked-front size ties (x ∷ xs) h =
    let above = sum_by-cons (λ (y : Leaf). cond (is_above size y) 1 0) x xs in
    let at = sum_by-cons (λ (y : Leaf). cond (is_at size y) 1 0) x xs in
    ⊎_elim
    (λ (e : size_of x ≡ size). same (λ t. picked-front size t xs) ties e h above at (ap {B = ℕ} (λ (b : Bool). cond b 1 0) (le-ltb size (size_of x) (omega (arith, e)))) (ap {B = ℕ} (λ (b : Bool). cond b 1 0) (eq-eqb (size_of x) size e)))
    (λ (o : (size_of x < size) ⊎ (size < size_of x)). ⊎_elim
    (λ (l : size_of x < size).
    let differs = ne_eqb (size_of x) size (λ q. omega (arith, q, l)) in
    let a = ap {B = ℕ} (λ (b : Bool). cond b 1 0) (le-ltb size (size_of x) (omega (arith, l))) in
    let b = ap {B = ℕ} (λ (b : Bool). cond b 1 0) differs in
    let few : ties ≤ count_by (is_at size) xs = omega (arith, h, at, b) in
    let room = at_and_above (size_of x) size l xs in
    let k = count_by (is_above size) xs + ties in
    subst (IsPermutation (take (count_by (is_above size) (x ∷ xs) + ties) (rank (x ∷ xs)))) (sym (passes size ties x xs ties (λ i. le-ltb size (size_of x) (omega (arith, l)) i || (differs i && ltb 0 ties)) (ap (λ (b : Bool). cond b (ties - 1) ties) differs)))
    (at_length (rank (x ∷ xs)) (picked size ties xs) k (count_by (is_above size) (x ∷ xs) + ties) (omega (arith, above, a))
    (without_first x xs (picked size ties xs) k (omega (arith, room, few)) (picked-front size ties xs few))))
    (λ (l : size < size_of x).
    let differs = ne_eqb (size_of x) size (λ q. omega (arith, q, l)) in
    let a = ap {B = ℕ} (λ (b : Bool). cond b 1 0) (lt-ltb size (size_of x) l) in
    let b = ap {B = ℕ} (λ (b : Bool). cond b 1 0) differs in
    let few : ties ≤ count_by (is_at size) xs = omega (arith, h, at, b) in
    let fewer = fewer_above size (size_of x) (omega (arith, l)) xs in
    let k = count_by (is_above size) xs + ties in
    subst (IsPermutation (take (count_by (is_above size) (x ∷ xs) + ties) (rank (x ∷ xs)))) (sym (picks size ties x xs ties (ap (λ (b : Bool). b || ((eqb (size_of x) size) && ltb 0 ties)) (lt-ltb size (size_of x) l)) (ap (λ (b : Bool). cond b (ties - 1) ties) differs)))
    (at_length (rank (x ∷ xs)) (x ∷ picked size ties xs) (suc k) (count_by (is_above size) (x ∷ xs) + ties) (omega (arith, above, a))
    (with_first x xs (picked size ties xs) k (omega (arith, fewer)) (picked-front size ties xs few))))
    o)
    (cases_order (size_of x) size)
  where
    same : ((t : ℕ) → t ≤ count_by (is_at size) xs → IsPermutation (take (count_by (is_above size) xs + t) (rank xs)) (picked size t xs)) → (t : ℕ) → size_of x ≡ size → t ≤ count_by (is_at size) (x ∷ xs) → count_by (is_above size) (x ∷ xs) ≡ cond (is_above size x) 1 0 + count_by (is_above size) xs → count_by (is_at size) (x ∷ xs) ≡ cond (is_at size x) 1 0 + count_by (is_at size) xs →
        ◌≡◌ {A = ℕ} (cond (is_above size x) 1 0) 0 → ◌≡◌ {A = ℕ} (cond (is_at size x) 1 0) 1 → IsPermutation (take (count_by (is_above size) (x ∷ xs) + t) (rank (x ∷ xs))) (picked size t (x ∷ xs))
    same rest zero e l above at a b =
        let equal = fewer_above (size_of x) size (omega (arith, e)) xs in
        subst (IsPermutation (take (count_by (is_above size) (x ∷ xs) + 0) (rank (x ∷ xs)))) (sym (passes size 0 x xs 0 (λ i. le-ltb size (size_of x) (omega (arith, e)) i || (eq-eqb (size_of x) size e i && false)) (ap (λ (b : Bool). cond b (0 - 1) 0) (eq-eqb (size_of x) size e))))
        (at_length (rank (x ∷ xs)) (picked size 0 xs) (count_by (is_above size) xs + 0) (count_by (is_above size) (x ∷ xs) + 0) (omega (arith, above, a))
        (without_first x xs (picked size 0 xs) (count_by (is_above size) xs + 0) (omega (arith, equal)) (rest 0 (omega arith))))
    same rest (suc t) e l above at a b =
        let equal = fewer_above size (size_of x) (omega (arith, e)) xs in
        let few : t ≤ count_by (is_at size) xs = omega (arith, l, at, b) in
        let less : suc t - 1 ≡ t = omega arith in
        let k = count_by (is_above size) xs + t in
        subst (IsPermutation (take (count_by (is_above size) (x ∷ xs) + suc t) (rank (x ∷ xs)))) (sym (picks size (suc t) x xs t (λ i. le-ltb size (size_of x) (omega (arith, e)) i || (eq-eqb (size_of x) size e i && lt-ltb 0 (suc t) (omega arith) i)) (ap (λ (b : Bool). cond b (suc t - 1) (suc t)) (eq-eqb (size_of x) size e) ∙ less)))
        (at_length (rank (x ∷ xs)) (x ∷ picked size t xs) (suc k) (count_by (is_above size) (x ∷ xs) + suc t) (omega (arith, above, a))
        (with_first x xs (picked size t xs) k (omega (arith, equal)) (rest t few)))

-- what is picked is in the order of names
all_picked : (P : Name → Type 0) (size ties : ℕ) (xs : List Leaf) → AllByRecursion P (names_of xs) → AllByRecursion P (names_of (picked size ties xs))
all_picked P size ties [] h = tt
all_picked P size ties (x ∷ xs) h =
    let rest = all_picked P size (ties_after size ties x) xs h.1 in
    elim (is_picked size ties x) as (λ b. AllByRecursion P (names_of (cond b (x ∷ picked size (ties_after size ties x) xs) (picked size (ties_after size ties x) xs)))) [
      | true ↦ (h.0, rest)
      | false ↦ rest
    ]

pub picked-in_order : (size ties : ℕ) (xs : List Leaf) → IsStrictlySortedBy name_cmp (names_of xs) → IsStrictlySortedBy name_cmp (names_of (picked size ties xs))
unfolding IsStrictlySortedBy
picked-in_order size ties [] h = tt
picked-in_order size ties (x ∷ xs) h =
    let rest = picked-in_order size (ties_after size ties x) xs h.1 in
    elim (is_picked size ties x) as (λ b. IsStrictlySortedBy name_cmp (names_of (cond b (x ∷ picked size (ties_after size ties x) xs) (picked size (ties_after size ties x) xs)))) [
      | true ↦ (all_picked (λ m. name_cmp x.0 m ≡ Less) size (ties_after size ties x) xs h.0, rest)
      | false ↦ rest
    ]
