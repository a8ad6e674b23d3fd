-- From the sizes that fall to the leaves that are chosen.
use Rattle.std.proofs.Common.{◌≡◌, ℕ, zero, suc, ◌+◌, ◌*◌, ◌<◌, ◌≤◌, Bool, cond, eqb, ltb, List, [], ◌∷◌, map, take, sum, count_by, refl, sym, ap, ◌∙◌, subst, arith}
use Rattle.std.specs.List.{sum_by}
use Rattle.std.specs.List.Sorted.{IsPermutation, IsStrictlySortedBy}
use Rattle.std.proofs.lemmas.List.{take-map}
use Rattle.std.proofs.lemmas.List.Sorted.{IsPermutation-map, IsPermutation-refl, sum_by-IsPermutation}
use Rattle.std.proofs.lemmas.List.Sums.{sum-map, sum_by-cons}
use Rattle.mesh_names.specs.Names.{Name, name_cmp}
use Rattle.mark_strategy.specs.Leaves.{AreLeaves, Leaf, names_of, size_of, total}
use Rattle.mark_strategy.specs.Picks.{AreFalling, IsCut, IsEnough, picked}
use Rattle.mark_strategy.specs.Shares.{Fraction}
use Rattle.mark_strategy.specs.Strategies.{IsBulk, IsShortest}
use Rattle.mark_strategy.proofs.Falling.{same_falling}
use Rattle.mark_strategy.proofs.Ranking.{are_ranked, is_above, rank, rank-falls, rank-same, sizes-fall}
use Rattle.mark_strategy.proofs.Picking.{is_at, picked-front, picked-in_order}

-- a sum over mapped elements
sum_by-map : {X Y : Type 0} (f : Y → ℕ) (g : X → Y) (xs : List X) → sum_by f (map g xs) ≡ sum_by (λ x. f (g x)) xs
sum_by-map f g [] = refl
sum_by-map f g (x ∷ xs) = let a = sum_by-cons f (g x) (map g xs) in let b = sum_by-cons (λ y. f (g y)) x xs in let c = sum_by-map f g xs in omega (arith, a, b, c)

none_in_order : IsStrictlySortedBy name_cmp []
unfolding IsStrictlySortedBy
none_in_order = tt

module _ (values : List Leaf) (sizes : List ℕ) (falling : AreFalling values sizes) where
  -- the sizes are those of the ranked leaves
  are_sizes : sizes ≡ map size_of (rank values)
  are_sizes = same_falling sizes (map size_of (rank values)) falling.fall (sizes-fall (rank values) (rank-falls values)) (λ f.
      sum_by-IsPermutation f (map size_of values) sizes falling.same
      ∙ sum_by-map f size_of values
      ∙ sym (sum_by-IsPermutation (λ x. f (size_of x)) values (rank values) (rank-same values))
      ∙ sym (sum_by-map f size_of (rank values)))

  front_total : (k : ℕ) → sum (take k sizes) ≡ total (take k (rank values))
  front_total k = ap (λ (zs : List ℕ). sum (take k zs)) are_sizes ∙ ap sum (take-map size_of k (rank values)) ∙ sum-map size_of (take k (rank values))

  whole_total : sum sizes ≡ total (rank values)
  whole_total = ap sum are_sizes ∙ sum-map size_of (rank values)

  counted : (test : ℕ → Bool) → count_by test sizes ≡ count_by (λ x. test (size_of x)) values
  counted test = sum_by-IsPermutation (λ s. cond (test s) 1 0) (map size_of values) sizes falling.same ∙ sum_by-map (λ s. cond (test s) 1 0) size_of values

  module _ (share : Fraction) (count : ℕ) (enough : IsEnough share sizes count) where
    -- the shortest front
    is_shortest : IsShortest share (rank values) count
    is_shortest = record {
      reach = let a = ap (λ (n : ℕ). share.part * n) whole_total in let b = ap (λ (n : ℕ). n * share.whole) (front_total count) in let h = enough.reach in omega (arith, a, b, h);
      shortest = λ fewer h. enough.shortest fewer (let a = ap (λ (n : ℕ). share.part * n) whole_total in let b = ap (λ (n : ℕ). n * share.whole) (front_total fewer) in omega (arith, a, b, h));
    }

    -- what is picked by the cut is the bulk
    pub bulk_by_cut : AreLeaves values → (size ties : ℕ) → IsCut sizes count size ties → IsBulk share values (names_of (picked size ties values))
    bulk_by_cut leaves size ties cut =
        let above = counted (λ s. ltb size s) in
        let at = counted (λ s. eqb s size) in
        let length_is : count_by (is_above size) values + ties ≡ count = let h = cut.above in omega (arith, h, above) in
        let few : ties ≤ count_by (is_at size) values = let h = cut.few in omega (arith, h, at) in
        record {
          ranked = rank values;
          are_ranked = are_ranked values leaves;
          count = count;
          is_shortest = is_shortest;
          front = IsPermutation-map (λ (l : Leaf). l.0) (take count (rank values)) (picked size ties values) (subst (λ (k : ℕ). IsPermutation (take k (rank values)) (picked size ties values)) length_is (picked-front size ties values few));
          in_order = picked-in_order size ties values leaves;
        }

    -- where none are enough, none are the bulk
    pub bulk_of_none : AreLeaves values → count ≡ 0 → (names : List Name) → names ≡ [] → IsBulk share values names
    bulk_of_none leaves none names empty = record {
      ranked = rank values;
      are_ranked = are_ranked values leaves;
      count = count;
      is_shortest = is_shortest;
      front = subst (λ (k : ℕ). IsPermutation (names_of (take k (rank values))) names) (sym none) (subst (IsPermutation []) (sym empty) (IsPermutation-refl []));
      in_order = subst (λ (ns : List Name). IsStrictlySortedBy name_cmp ns) (sym empty) none_in_order;
    }
