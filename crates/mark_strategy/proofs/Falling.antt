-- Sizes that fall: how they are got, that they are told by their sums, and where their fronts end.
use Rattle.std.proofs.Common.{◌≡◌, ◌⊎◌, ℕ, zero, suc, ◌+◌, ◌-◌, ◌<◌, ◌≤◌, Bool, true, false, cond, eqb, ltb, List, [], ◌∷◌, ◌++◌, length, reverse, take, get_or, count_by, refl, sym, ap, ◌∙◌, subst, ⊎_elim, arith}
use Rattle.std.specs.List.{AllByRecursion, sum_by}
use Rattle.std.specs.List.Sorted.{IsNonDecreasingBy}
use Rattle.std.proofs.lemmas.Bool.{cases_lt, cases_order, lt-ltb, le-ltb, eq-eqb, ne_eqb}
use Rattle.std.proofs.lemmas.List.{get_or-take, length-take-le, reverse-append}
use Rattle.std.proofs.lemmas.List.Sums.{sum_by-cons, sum_by-take-le}
use Rattle.mark_strategy.specs.Picks.{Fall, IsCut}

-- what holds of all and of one more
all_push : (P : ℕ → Type 0) (ys : List ℕ) (x : ℕ) → AllByRecursion P ys → P x → AllByRecursion P (ys ++ x ∷ [])
all_push P [] x h p = (p, tt)
all_push P (y ∷ ys) x h p = (h.0, all_push P ys x h.1 p)

all_reverse : (P : ℕ → Type 0) (xs : List ℕ) → AllByRecursion P xs → AllByRecursion P (reverse xs)
all_reverse P [] h = tt
all_reverse P (x ∷ xs) h = subst (AllByRecursion P) (sym (reverse-append (x ∷ []) xs)) (all_push P (reverse xs) x (all_reverse P xs h.1) h.0)

fall_push : (ys : List ℕ) (x : ℕ) → Fall ys → AllByRecursion (λ y. x ≤ y) ys → Fall (ys ++ x ∷ [])
fall_push [] x f h = (tt, tt)
fall_push (y ∷ ys) x f h = (all_push (λ z. z ≤ y) ys x f.0 h.0, fall_push ys x f.1 h.1)

all_at : (x : ℕ) (xs : List ℕ) → ((k : ℕ) → k < length xs → x ≤ get_or xs k 0) → AllByRecursion (λ y. x ≤ y) xs
all_at x [] h = tt
all_at x (y ∷ ys) h = (h 0 (omega arith), all_at x ys (λ k l. h (suc k) (omega (arith, l))))

-- sizes that rise fall once they are reversed
pub fall_reverse : (xs : List ℕ) → IsNonDecreasingBy (λ x. x) xs → Fall (reverse xs)
fall_reverse [] h = tt
fall_reverse (x ∷ xs) h = subst Fall (sym (reverse-append (x ∷ []) xs))
    (fall_push (reverse xs) x (fall_reverse xs (λ i j d l m. h (suc i) (suc j) d (omega (arith, l)) (omega (arith, m))))
    (all_reverse (λ y. x ≤ y) xs (all_at x xs (λ k l. h 0 (suc k) 0 (omega arith) (omega (arith, l))))))

-- no size is above one that is at least all
pub none_above : (n : ℕ) (ys : List ℕ) → AllByRecursion (λ y. y ≤ n) ys → count_by (λ y. ltb n y) ys ≡ 0
none_above n [] h = refl
none_above n (y ∷ ys) h =
    let a = sum_by-cons (λ x. cond (ltb n x) 1 0) y ys in
    let b = ap {B = ℕ} (λ (c : Bool). cond c 1 0) (le-ltb n y h.0) in
    let c = none_above n ys h.1 in
    omega (arith, a, b, c)

-- the first of falling sizes is at most the first of others with the same sums
first_le : (x y : ℕ) (xs ys : List ℕ) → AllByRecursion (λ z. z ≤ y) ys → count_by (λ z. ltb y z) (x ∷ xs) ≡ count_by (λ z. ltb y z) (y ∷ ys) → x ≤ y
first_le x y xs ys h e = ⊎_elim
    (λ (l : y < x).
    let a = sum_by-cons (λ z. cond (ltb y z) 1 0) x xs in
    let b = ap {B = ℕ} (λ (c : Bool). cond c 1 0) (lt-ltb y x l) in
    let c = none_above y (y ∷ ys) (omega arith, h) in
    absurd (omega (arith, a, b, c, e)))
    (λ (l : x ≤ y). l)
    (cases_lt y x)

-- falling sizes with the same sums are the same
pub same_falling : (xs ys : List ℕ) → Fall xs → Fall ys → ((f : ℕ → ℕ) → sum_by f xs ≡ sum_by f ys) → xs ≡ ys
same_falling [] [] f g e = refl
same_falling [] (y ∷ ys) f g e = let a = e (λ _. 1) in let b = sum_by-cons (λ _. 1) y ys in absurd (omega (arith, a, b))
same_falling (x ∷ xs) [] f g e = let a = e (λ _. 1) in let b = sum_by-cons (λ _. 1) x xs in absurd (omega (arith, a, b))
same_falling (x ∷ xs) (y ∷ ys) f g e =
    let one = first_le x y xs ys g.0 (e (λ z. cond (ltb y z) 1 0)) in
    let two = first_le y x ys xs f.0 (sym (e (λ z. cond (ltb x z) 1 0))) in
    let same : x ≡ y = omega (arith, one, two) in
    let rest = same_falling xs ys f.1 g.1 (λ h. let a = sum_by-cons h x xs in let b = sum_by-cons h y ys in let c = e h in let d = ap h same in omega (arith, a, b, c, d)) in
    λ i. same i ∷ rest i

-- of falling sizes, those above the one at k and those equal to it up to there are the first k + 1
pub cut_counts : (xs : List ℕ) (k : ℕ) → Fall xs → k < length xs → count_by (λ s. ltb (get_or xs k 0) s) xs + count_by (λ s. eqb s (get_or xs k 0)) (take (suc k) xs) ≡ suc k
cut_counts [] k f h = absurd (omega (arith, h))
cut_counts (x ∷ xs) zero f h =
    let a = none_above x (x ∷ xs) (omega arith, f.0) in
    let b = sum_by-cons (λ s. cond (eqb s x) 1 0) x [] in
    let c = ap {B = ℕ} (λ (t : Bool). cond t 1 0) (eq-eqb x x refl) in
    omega (arith, a, b, c)
cut_counts (x ∷ xs) (suc k) f h =
    let last = get_or xs k 0 in
    let rest = cut_counts xs k f.1 (omega (arith, h)) in
    let a = sum_by-cons (λ s. cond (ltb last s) 1 0) x xs in
    let b = sum_by-cons (λ s. cond (eqb s last) 1 0) x (take (suc k) xs) in
    ⊎_elim
    (λ (l : last < x).
    let c = ap {B = ℕ} (λ (t : Bool). cond t 1 0) (lt-ltb last x l) in
    let d = ap {B = ℕ} (λ (t : Bool). cond t 1 0) (ne_eqb x last (λ e. omega (arith, e, l))) in
    omega (arith, a, b, c, d, rest))
    (λ (l : x ≤ last).
    let m = at_most k xs f.0 (omega (arith, h)) in
    let c = ap {B = ℕ} (λ (t : Bool). cond t 1 0) (le-ltb last x l) in
    let d = ap {B = ℕ} (λ (t : Bool). cond t 1 0) (eq-eqb x last (omega (arith, l, m))) in
    omega (arith, a, b, c, d, rest))
    (cases_lt last x)
  where
    at_most : (j : ℕ) (ys : List ℕ) → AllByRecursion (λ y. y ≤ x) ys → j < length ys → get_or ys j 0 ≤ x
    at_most j [] g m = absurd (omega (arith, m))
    at_most zero (y ∷ ys) g m = g.0
    at_most (suc j) (y ∷ ys) g m = at_most j ys g.1 (omega (arith, m))

-- where the first `count` of falling sizes end
pub cut_is : (sizes : List ℕ) (count last ties : ℕ) → Fall sizes → count ≤ length sizes → 0 < length (take count sizes) → last ≡ get_or (take count sizes) (length (take count sizes) - 1) 0 →
    ties ≡ count_by (λ s. eqb s last) (take count sizes) → IsCut sizes count last ties
cut_is sizes zero last ties f w some at e = absurd (omega (arith, some))
cut_is sizes (suc k) last ties f w some at e =
    let long = length-take-le (suc k) sizes w in
    let place : length (take (suc k) sizes) - 1 ≡ k = omega (arith, long) in
    let last_is : last ≡ get_or sizes k 0 = at ∙ ap (λ (i : ℕ). get_or (take (suc k) sizes) i 0) place ∙ get_or-take (suc k) sizes k 0 (omega arith) in
    let counts = cut_counts sizes k f (omega (arith, w)) in
    let above = ap (λ (n : ℕ). count_by (λ s. ltb n s) sizes) last_is in
    let equal = ap (λ (n : ℕ). count_by (λ s. eqb s n) (take (suc k) sizes)) last_is in
    let fewer = sum_by-take-le (λ s. cond (eqb s last) 1 0) sizes (suc k) in
    record { above = omega (arith, counts, above, equal, e); few = omega (arith, fewer, e) }
