-- No set of leaves that reaches the share is smaller than the shortest front of the ranked leaves.
use Rattle.std.proofs.Common.{◌≡◌, ◌⊎◌, inl, inr, ℕ, zero, suc, ◌+◌, ◌*◌, ◌<◌, ◌≤◌, Bool, true, false, cond, ltb, eqb, List, [], ◌∷◌, length, map, take, min, refl, sym, ap, ◌∙◌, subst, arith}
use Rattle.std.specs.List.{AllByRecursion, filter, sum_by}
use Rattle.std.proofs.Math.Nat.{mul-le-mul_right}
use Rattle.std.specs.List.Sorted.{IsPermutation, IsStrictlySortedBy}
use Rattle.std.specs.Ordering.{nat_cmp, ordering_then}
use Rattle.std.specs.declared.cmp.Ordering.{Ordering}
use Rattle.std.specs.declared.cmp.Ordering.TheVariants.{Less, Equal, Greater}
use Rattle.std.proofs.lemmas.Bool.{cases_lt, le-ltb, ne_eqb}
use Rattle.std.proofs.lemmas.List.{length-map, length-take}
use Rattle.std.proofs.lemmas.List.Sorted.{length_permutation, sum_by-IsPermutation}
use Rattle.std.proofs.lemmas.List.Sums.{sum_by-cons, length-filter}
use Rattle.mesh_names.specs.Names.{Name, name_cmp}
use Rattle.mark_strategy.specs.Leaves.{Leaf, names_of, size_of, total}
use Rattle.mark_strategy.specs.Shares.{Fraction}
use Rattle.mark_strategy.specs.Strategies.{AreFewest, AreRanked, IsBulk, IsShortest, Reach, rank_cmp, those_in}
use Rattle.mark_strategy.proofs.Ranking.{Falls}

-- of two ranked leaves the first is at least as large
not_larger : (x y : Leaf) → rank_cmp x y ≡ Less → size_of y ≤ size_of x
not_larger x y e = by (cases_lt (size_of x) (size_of y))
  where
    by : (size_of x < size_of y) ⊎ (size_of y ≤ size_of x) → size_of y ≤ size_of x
    by (inl l) = absurd (greater (sym (ap (λ (o : Ordering). ordering_then o (name_cmp x.0 y.0)) (above l)) ∙ e))
      where
        above : size_of x < size_of y → nat_cmp (size_of y) (size_of x) ≡ Greater
        above k = ap (λ (b : Bool). cond b Less (cond (eqb (size_of y) (size_of x)) Equal Greater)) (le-ltb (size_of y) (size_of x) (omega (arith, k)))
            ∙ ap (λ (b : Bool). cond b Equal Greater) (ne_eqb (size_of y) (size_of x) (λ q. omega (arith, q, k)))

        greater : Greater ≡ Less → ⊥
        greater q = cc
    by (inr l) = l

all_not_larger : (x : Leaf) (ys : List Leaf) → AllByRecursion (λ (y : Leaf). rank_cmp x y ≡ Less) ys → AllByRecursion (λ (y : Leaf). size_of y ≤ size_of x) ys
all_not_larger x [] h = tt
all_not_larger x (y ∷ ys) h = (not_larger x y h.0, all_not_larger x ys h.1)

ranked-falls : (xs : List Leaf) → IsStrictlySortedBy rank_cmp xs → Falls xs
unfolding IsStrictlySortedBy
ranked-falls [] h = tt
ranked-falls (x ∷ xs) h = (all_not_larger x xs h.0, ranked-falls xs h.1)

-- a front of falling leaves is at least as large as one that begins a leaf later
later_front : (n : ℕ) (y : Leaf) (ys : List Leaf) → Falls (y ∷ ys) → total (take n ys) ≤ total (take n (y ∷ ys))
later_front zero y ys f = omega arith
later_front (suc n) y [] f = omega arith
later_front (suc n) y (z ∷ zs) f =
    let a = sum_by-cons size_of y (take n (z ∷ zs)) in
    let b = sum_by-cons size_of z (take n zs) in
    let c = later_front n z zs f.1 in
    let d : size_of z ≤ size_of y = f.0.0 in
    omega (arith, a, b, c, d)

module _ (p : Leaf → Bool) where
  -- of falling leaves no more than the first are larger
  best_front : (ys : List Leaf) → Falls ys → total (filter p ys) ≤ total (take (length (filter p ys)) ys)
  best_front [] f = omega arith
  best_front (y ∷ ys) f = by (best_front ys f.1) (p y)
    where
      by : total (filter p ys) ≤ total (take (length (filter p ys)) ys) → (b : Bool) → total (cond b (y ∷ filter p ys) (filter p ys)) ≤ total (take (length (cond b (y ∷ filter p ys) (filter p ys))) (y ∷ ys))
      by rest true =
          let a = sum_by-cons size_of y (filter p ys) in
          let b = sum_by-cons size_of y (take (length (filter p ys)) ys) in
          omega (arith, a, b, rest)
      by rest false = let a = later_front (length (filter p ys)) y ys f in omega (arith, a, rest)

  -- what passes has the sum of the sizes that pass
  filtered : (xs : List Leaf) → total (filter p xs) ≡ sum_by (λ x. cond (p x) (size_of x) 0) xs
  filtered [] = refl
  filtered (x ∷ xs) = by (filtered xs) (p x) (sum_by-cons (λ (y : Leaf). cond (p y) (size_of y) 0) x xs)
    where
      by : total (filter p xs) ≡ sum_by (λ y. cond (p y) (size_of y) 0) xs → (b : Bool) → sum_by (λ y. cond (p y) (size_of y) 0) (x ∷ xs) ≡ cond b (size_of x) 0 + sum_by (λ y. cond (p y) (size_of y) 0) xs → total (cond b (x ∷ filter p xs) (filter p xs)) ≡ sum_by (λ y. cond (p y) (size_of y) 0) (x ∷ xs)
      by rest true e = let a = sum_by-cons size_of x (filter p xs) in omega (arith, a, rest, e)
      by rest false e = omega (arith, rest, e)

  -- what passes is as much, and as many, in another order
  filtered_same : (xs ys : List Leaf) → IsPermutation xs ys → (total (filter p ys) ≡ total (filter p xs)) × (length (filter p ys) ≡ length (filter p xs))
  filtered_same xs ys h = (
    filtered ys ∙ sum_by-IsPermutation (λ (x : Leaf). cond (p x) (size_of x) 0) xs ys h ∙ sym (filtered xs),
    length-filter p ys ∙ sum_by-IsPermutation (λ (x : Leaf). cond (p x) 1 0) xs ys h ∙ sym (length-filter p xs),
  )

-- what reaches the share still does where it is more
more_reach : (part whole all same some more : ℕ) → all ≡ same → some ≤ more → part * all ≤ some * whole → part * same ≤ more * whole
more_reach part whole all same some more e l h =
    let grown = mul-le-mul_right whole l in
    let kept = ap (λ (n : ℕ). part * n) e in
    omega (arith, h, grown, kept)

-- a bulk is the smallest set that reaches the share
pub bulk_is_fewest : (share : Fraction) (values : List Leaf) (names : List Name) → IsBulk share values names → AreFewest share values names
bulk_is_fewest share values names bulk set reach =
    let p : Leaf → Bool = λ leaf. set leaf.0 in
    let ranked = bulk.ranked in
    let same = filtered_same p values ranked bulk.are_ranked.same in
    let whole = sum_by-IsPermutation size_of values ranked bulk.are_ranked.same in
    let best = best_front p ranked (ranked-falls ranked bulk.are_ranked.in_order) in
    let least = bulk.is_shortest.shortest (length (filter p ranked)) (more_reach share.part share.whole (total values) (total ranked) (total (filter p values)) (total (take (length (filter p ranked)) ranked)) (sym whole) (omega (arith, same.0, best)) reach) in
    let many = length_permutation (names_of (take bulk.count ranked)) names bulk.front ∙ length-map (take bulk.count ranked) (λ (l : Leaf). l.0) ∙ length-take bulk.count ranked in
    omega (arith, least, many, same.1)
