-- The leaves, ranked: each is put before the first leaf that is not larger.
use Rattle.std.proofs.Common.{◌≡◌, ◌⊎◌, ℕ, zero, suc, ◌+◌, ◌<◌, ◌≤◌, Bool, true, false, cond, eqb, ltb, List, [], ◌∷◌, ◌++◌, length, map, take, count_by, refl, sym, ap, ◌∙◌, subst, ⊎_elim, arith}
use Rattle.std.specs.List.{AllByRecursion, prefix_len, sum_by}
use Rattle.std.specs.List.Sorted.{IsPermutation, IsStrictlySortedBy}
use Rattle.std.specs.Ordering.{nat_cmp, ordering_then}
use Rattle.std.specs.declared.cmp.Ordering.{Ordering}
use Rattle.std.specs.declared.cmp.Ordering.TheVariants.{Less, Equal, Greater}
use Rattle.std.proofs.lemmas.Bool.{cases_Bool, cases_lt, cases_order, ltb-true, ltb-false, lt-ltb, le-ltb, eq-eqb}
use Rattle.std.proofs.lemmas.List.Sorted.{IsPermutation-refl, IsPermutation-trans, IsPermutation-cons, IsPermutation-middle}
use Rattle.std.proofs.lemmas.List.Sums.{sum_by-cons}
use Rattle.mesh_names.specs.Names.{Name, name_cmp}
use Rattle.mark_strategy.specs.Leaves.{Leaf, names_of, size_of}
use Rattle.mark_strategy.specs.Picks.{Fall}
use Rattle.mark_strategy.specs.Strategies.{AreRanked, rank_cmp}

-- a leaf before the first that is not larger
abbrev pub placed : Leaf → List Leaf → List Leaf
placed x [] = x ∷ []
placed x (y ∷ ys) = cond (ltb (size_of x) (size_of y)) (y ∷ placed x ys) (x ∷ y ∷ ys)

-- the leaves, each placed among those after it
abbrev pub rank : List Leaf → List Leaf
rank [] = []
rank (x ∷ xs) = placed x (rank xs)

-- each leaf is at least as large as all those after it
abbrev pub Falls : List Leaf → Type 0
Falls [] = Unit {0}
Falls (x ∷ xs) = AllByRecursion (λ y. size_of y ≤ size_of x) xs × Falls xs

pub placed-same : (x : Leaf) (ys : List Leaf) → IsPermutation (x ∷ ys) (placed x ys)
placed-same x [] = IsPermutation-refl (x ∷ [])
placed-same x (y ∷ ys) = elim (ltb (size_of x) (size_of y)) as (λ b. IsPermutation (x ∷ y ∷ ys) (cond b (y ∷ placed x ys) (x ∷ y ∷ ys))) [
  | true ↦ IsPermutation-trans (x ∷ y ∷ ys) (y ∷ x ∷ ys) (y ∷ placed x ys) (IsPermutation-middle (x ∷ []) y ys) (IsPermutation-cons y (x ∷ ys) (placed x ys) (placed-same x ys))
  | false ↦ IsPermutation-refl (x ∷ y ∷ ys)
]

pub rank-same : (xs : List Leaf) → IsPermutation xs (rank xs)
rank-same [] = IsPermutation-refl []
rank-same (x ∷ xs) = IsPermutation-trans (x ∷ xs) (x ∷ rank xs) (placed x (rank xs)) (IsPermutation-cons x xs (rank xs) (rank-same xs)) (placed-same x (rank xs))

all_placed : (P : Leaf → Type 0) (x : Leaf) (ys : List Leaf) → P x → AllByRecursion P ys → AllByRecursion P (placed x ys)
all_placed P x [] p h = (p, tt)
all_placed P x (y ∷ ys) p h = elim (ltb (size_of x) (size_of y)) as (λ b. AllByRecursion P (cond b (y ∷ placed x ys) (x ∷ y ∷ ys))) [
  | true ↦ (h.0, all_placed P x ys p h.1)
  | false ↦ (p, h)
]

all_rank : (P : Leaf → Type 0) (xs : List Leaf) → AllByRecursion P xs → AllByRecursion P (rank xs)
all_rank P [] h = tt
all_rank P (x ∷ xs) h = all_placed P x (rank xs) h.0 (all_rank P xs h.1)

all_map : (P Q : Leaf → Type 0) (xs : List Leaf) → ((y : Leaf) → P y → Q y) → AllByRecursion P xs → AllByRecursion Q xs
all_map P Q [] f h = tt
all_map P Q (x ∷ xs) f h = (f x h.0, all_map P Q xs f h.1)

placed-falls : (x : Leaf) (ys : List Leaf) → Falls ys → Falls (placed x ys)
placed-falls x [] h = (tt, tt)
placed-falls x (y ∷ ys) h = ⊎_elim
    (λ (e : ltb (size_of x) (size_of y) ≡ true).
    let less = ltb-true (size_of x) (size_of y) e in
    subst (λ (b : Bool). Falls (cond b (y ∷ placed x ys) (x ∷ y ∷ ys))) (sym e)
    (all_placed (λ z. size_of z ≤ size_of y) x ys (omega (arith, less)) h.0, placed-falls x ys h.1))
    (λ (e : ltb (size_of x) (size_of y) ≡ false).
    let more = ltb-false (size_of x) (size_of y) e in
    subst (λ (b : Bool). Falls (cond b (y ∷ placed x ys) (x ∷ y ∷ ys))) (sym e)
    ((more, all_map (λ z. size_of z ≤ size_of y) (λ z. size_of z ≤ size_of x) ys (λ z k. omega (arith, k, more)) h.0), h))
    (cases_Bool (ltb (size_of x) (size_of y)))

pub rank-falls : (xs : List Leaf) → Falls (rank xs)
rank-falls [] = tt
rank-falls (x ∷ xs) = placed-falls x (rank xs) (rank-falls xs)

all_sizes : (n : ℕ) (xs : List Leaf) → AllByRecursion (λ (y : Leaf). size_of y ≤ n) xs → AllByRecursion (λ s. s ≤ n) (map size_of xs)
all_sizes n [] h = tt
all_sizes n (x ∷ xs) h = (h.0, all_sizes n xs h.1)

pub sizes-fall : (xs : List Leaf) → Falls xs → Fall (map size_of xs)
sizes-fall [] h = tt
sizes-fall (x ∷ xs) h = (all_sizes (size_of x) xs h.0, sizes-fall xs h.1)

-- a larger leaf comes first, and of two of one size the one whose name does
larger_first : (x y : Leaf) → size_of y < size_of x → rank_cmp x y ≡ Less
larger_first x y h = ap (λ (b : Bool). ordering_then (cond b Less (cond (eqb (size_of y) (size_of x)) Equal Greater)) (name_cmp x.0 y.0)) (lt-ltb (size_of y) (size_of x) h)

named_first : (x y : Leaf) → size_of y ≡ size_of x → name_cmp x.0 y.0 ≡ Less → rank_cmp x y ≡ Less
named_first x y e h =
    ap (λ (b : Bool). ordering_then (cond b Less (cond (eqb (size_of y) (size_of x)) Equal Greater)) (name_cmp x.0 y.0)) (le-ltb (size_of y) (size_of x) (omega (arith, e)))
    ∙ ap (λ (b : Bool). ordering_then (cond b Equal Greater) (name_cmp x.0 y.0)) (eq-eqb (size_of y) (size_of x) e)
    ∙ h

first_of_two : (x y : Leaf) → size_of y ≤ size_of x → name_cmp x.0 y.0 ≡ Less → rank_cmp x y ≡ Less
first_of_two x y l h = ⊎_elim
    (λ (k : size_of y < size_of x). larger_first x y k)
    (λ (k : size_of x ≤ size_of y). named_first x y (omega (arith, k, l)) h)
    (cases_lt (size_of y) (size_of x))

placed-in_order : (x : Leaf) (ys : List Leaf) → Falls ys → IsStrictlySortedBy rank_cmp ys → AllByRecursion (λ (y : Leaf). name_cmp x.0 y.0 ≡ Less) ys → IsStrictlySortedBy rank_cmp (placed x ys)
unfolding IsStrictlySortedBy
placed-in_order x [] f s h = (tt, tt)
placed-in_order x (y ∷ ys) f s h = ⊎_elim
    (λ (e : ltb (size_of x) (size_of y) ≡ true).
    subst (λ (b : Bool). IsStrictlySortedBy rank_cmp (cond b (y ∷ placed x ys) (x ∷ y ∷ ys))) (sym e)
    (all_placed (λ z. rank_cmp y z ≡ Less) x ys (larger_first y x (ltb-true (size_of x) (size_of y) e)) s.0, placed-in_order x ys f.1 s.1 h.1))
    (λ (e : ltb (size_of x) (size_of y) ≡ false).
    let more = ltb-false (size_of x) (size_of y) e in
    subst (λ (b : Bool). IsStrictlySortedBy rank_cmp (cond b (y ∷ placed x ys) (x ∷ y ∷ ys))) (sym e)
    ((first_of_two x y more h.0, after y more ys f.0 h.1), s))
    (cases_Bool (ltb (size_of x) (size_of y)))
  where
    after : (y : Leaf) → size_of y ≤ size_of x → (zs : List Leaf) → AllByRecursion (λ (z : Leaf). size_of z ≤ size_of y) zs → AllByRecursion (λ (z : Leaf). name_cmp x.0 z.0 ≡ Less) zs → AllByRecursion (λ (z : Leaf). rank_cmp x z ≡ Less) zs
    after y more [] l k = tt
    after y more (z ∷ zs) l k = (first_of_two x z (let m = l.0 in omega (arith, m, more)) k.0, after y more zs l.1 k.1)

all_named : (n : Name) (xs : List Leaf) → AllByRecursion (λ m. name_cmp n m ≡ Less) (names_of xs) → AllByRecursion (λ (y : Leaf). name_cmp n y.0 ≡ Less) xs
all_named n [] h = tt
all_named n (x ∷ xs) h = (h.0, all_named n xs h.1)

rank-in_order : (xs : List Leaf) → IsStrictlySortedBy name_cmp (names_of xs) → IsStrictlySortedBy rank_cmp (rank xs)
unfolding IsStrictlySortedBy
rank-in_order [] h = tt
rank-in_order (x ∷ xs) h = placed-in_order x (rank xs) (rank-falls xs) (rank-in_order xs h.1) (all_rank (λ y. name_cmp x.0 y.0 ≡ Less) xs (all_named x.0 xs h.0))

-- the leaves, ranked
pub are_ranked : (xs : List Leaf) → IsStrictlySortedBy name_cmp (names_of xs) → AreRanked xs (rank xs)
are_ranked xs h = record { same = rank-same xs; in_order = rank-in_order xs h }

-- the leaves that are larger than this size
abbrev pub is_above : ℕ → Leaf → Bool
is_above n y = ltb n (size_of y)

-- a leaf that is placed within a front belongs to the front
pub take-placed_in : (x : Leaf) (ys : List Leaf) (k : ℕ) → prefix_len (is_above (size_of x)) ys ≤ k → take (suc k) (placed x ys) ≡ placed x (take k ys)
take-placed_in x [] zero h = refl
take-placed_in x [] (suc k) h = refl
take-placed_in x (y ∷ ys) zero h = by (ltb (size_of x) (size_of y)) h
  where
    by : (b : Bool) → cond b (1 + prefix_len (is_above (size_of x)) ys) 0 ≤ 0 → take 1 (cond b (y ∷ placed x ys) (x ∷ y ∷ ys)) ≡ x ∷ []
    by true l = absurd (omega (arith, l))
    by false l = refl
take-placed_in x (y ∷ ys) (suc k) h = by (take-placed_in x ys k) (ltb (size_of x) (size_of y)) h
  where
    by : (prefix_len (is_above (size_of x)) ys ≤ k → take (suc k) (placed x ys) ≡ placed x (take k ys)) → (b : Bool) → cond b (1 + prefix_len (is_above (size_of x)) ys) 0 ≤ suc k →
        take (suc (suc k)) (cond b (y ∷ placed x ys) (x ∷ y ∷ ys)) ≡ cond b (y ∷ placed x (take k ys)) (x ∷ y ∷ take k ys)
    by rest true l = ap (λ zs. y ∷ zs) (rest (omega (arith, l)))
    by rest false l = refl

-- one that is placed after a front leaves it as it is
pub take-placed_after : (x : Leaf) (ys : List Leaf) (k : ℕ) → k ≤ prefix_len (is_above (size_of x)) ys → take k (placed x ys) ≡ take k ys
take-placed_after x ys zero h = refl
take-placed_after x [] (suc k) h = absurd (omega (arith, h))
take-placed_after x (y ∷ ys) (suc k) h = by (take-placed_after x ys k) (ltb (size_of x) (size_of y)) h
  where
    by : (k ≤ prefix_len (is_above (size_of x)) ys → take k (placed x ys) ≡ take k ys) → (b : Bool) → suc k ≤ cond b (1 + prefix_len (is_above (size_of x)) ys) 0 → take (suc k) (cond b (y ∷ placed x ys) (x ∷ y ∷ ys)) ≡ y ∷ take k ys
    by rest true l = ap (λ zs. y ∷ zs) (rest (omega (arith, l)))
    by rest false l = absurd (omega (arith, l))

none_larger : (n : ℕ) (ys : List Leaf) → AllByRecursion (λ (y : Leaf). size_of y ≤ n) ys → count_by (is_above n) ys ≡ 0
none_larger n [] h = refl
none_larger n (y ∷ ys) h =
    let a = sum_by-cons (λ (x : Leaf). cond (is_above n x) 1 0) y ys in
    let b = ap {B = ℕ} (λ (c : Bool). cond c 1 0) (le-ltb n (size_of y) h.0) in
    let c = none_larger n ys h.1 in
    omega (arith, a, b, c)

-- of falling leaves those above a size stand in front
pub front-count : (n : ℕ) (ys : List Leaf) → Falls ys → prefix_len (is_above n) ys ≡ count_by (is_above n) ys
front-count n [] f = refl
front-count n (y ∷ ys) f = ⊎_elim
    (λ (e : ltb n (size_of y) ≡ true).
    let a = sum_by-cons (λ (x : Leaf). cond (is_above n x) 1 0) y ys in
    let b = ap {B = ℕ} (λ (c : Bool). cond c 1 0) e in
    let c = ap {B = ℕ} (λ (c : Bool). cond c (1 + prefix_len (is_above n) ys) 0) e in
    let d = front-count n ys f.1 in
    omega (arith, a, b, c, d))
    (λ (e : ltb n (size_of y) ≡ false).
    let low = ltb-false n (size_of y) e in
    let a = none_larger n (y ∷ ys) (low, all_map (λ z. size_of z ≤ size_of y) (λ z. size_of z ≤ n) ys (λ z k. omega (arith, k, low)) f.0) in
    let c = ap {B = ℕ} (λ (c : Bool). cond c (1 + prefix_len (is_above n) ys) 0) e in
    omega (arith, a, c))
    (cases_Bool (ltb n (size_of y)))
