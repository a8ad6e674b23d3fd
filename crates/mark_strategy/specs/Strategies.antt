-- The leaves that each strategy chooses.
use Rattle.std.specs.Prelude.{◌≡◌, ℕ, ◌*◌, ◌≤◌, ◌&&◌, Bool, List, length, filter, take, nat_lt, nat_le}
use Rattle.std.specs.List.Sorted.{IsPermutation, IsStrictlySortedBy}
use Rattle.std.specs.Ordering.{nat_cmp, on, then_cmp}
use Rattle.std.specs.declared.cmp.Ordering.{Ordering}
use Rattle.mesh_names.specs.Names.{Name, name_cmp}
use Rattle.mark_strategy.specs.Leaves.{Leaf, greatest, names_of, size_of, total}
use Rattle.mark_strategy.specs.Shares.{Fraction}

-- the leaves whose size is above 0 and at least this share of the greatest
abbrev pub max_names : Fraction → List Leaf → List Name
max_names share values = names_of (filter (λ leaf. nat_lt 0 (size_of leaf) && nat_le (share.part * greatest values) (size_of leaf * share.whole)) values)

-- the leaves whose size is above an equal part of the goal
abbrev pub equal_names : ℕ → List Leaf → List Name
equal_names goal values = names_of (filter (λ leaf. nat_lt goal (size_of leaf * length values)) values)

-- the order by falling size, and by name where sizes are equal
abbrev pub rank_cmp : Leaf → Leaf → Ordering
rank_cmp = then_cmp (λ a b. nat_cmp (size_of b) (size_of a)) (on (λ (leaf : Leaf). leaf.0) name_cmp)

-- the same leaves, by falling size and then by name
pub record AreRanked (values ranked : List Leaf) : Type 0 where
  pub same : IsPermutation values ranked
  pub in_order : IsStrictlySortedBy rank_cmp ranked

-- the sizes of some leaves together are at least this share of all
abbrev pub Reach : Fraction → List Leaf → List Leaf → Type 0
Reach share all some = share.part * total all ≤ total some * share.whole

-- the first `count` leaves are the fewest at the front that reach the share
pub record IsShortest (share : Fraction) (ranked : List Leaf) (count : ℕ) : Type 0 where
  pub reach : Reach share ranked (take count ranked)
  pub shortest : (fewer : ℕ) → Reach share ranked (take fewer ranked) → count ≤ fewer

-- the names, in order, of the shortest front of the ranked leaves that reaches the share
pub record IsBulk (share : Fraction) (values : List Leaf) (names : List Name) : Type 0 where
  pub ranked : List Leaf
  pub are_ranked : AreRanked values ranked
  pub count : ℕ
  pub is_shortest : IsShortest share ranked count
  pub front : IsPermutation (names_of (take count ranked)) names
  pub in_order : IsStrictlySortedBy name_cmp names

-- the leaves whose names are in a set
abbrev pub those_in : (Name → Bool) → List Leaf → List Leaf
those_in set values = filter (λ leaf. set leaf.0) values

-- every set of names whose leaves reach the share has at least as many of the leaves
abbrev pub AreFewest : Fraction → List Leaf → List Name → Type 0
AreFewest share values names = (set : Name → Bool) → Reach share values (those_in set values) → length names ≤ length (those_in set values)
