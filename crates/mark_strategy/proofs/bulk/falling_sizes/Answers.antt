use Rattle.std.proofs.Common.{List, ap, map, ℕ, ◌∙◌, ◌≡◌, length, subst, sym}
use Rattle.std.specs.List.Sorted.{IsPermutation}
use Rattle.std.proofs.lemmas.List.{length-map, length-reverse}
use Rattle.std.proofs.lemmas.List.Sorted.{IsNonDecreasingBy-from_sort, IsPermutation-reverse, IsPermutation-trans, length_permutation}
use Rattle.mark_strategy.specs.Leaves.{size_of}
use Rattle.mark_strategy.specs.Picks.{Fall}
use Rattle.mark_strategy.proofs.Falling.{fall_reverse}
use Rattle.mark_strategy.proofs.bulk.falling_sizes.Goals as goal

pub returns : goal.returns
returns c =
    let sorted = c.sort_unstable.new.self.items in
    record {
      same = IsPermutation-trans (map size_of c.args.values.now) sorted c.reverse.new.self.items
          (subst (λ (xs : List ℕ). IsPermutation xs sorted) c.in_ok-sizes.ensures c.sort_unstable.ensures.permutation)
          c.reverse.ensures.permutation;
      fall = subst Fall (sym c.reverse.ensures.items) (fall_reverse sorted (IsNonDecreasingBy-from_sort (λ x. x) sorted c.sort_unstable.ensures.sorted));
    }
