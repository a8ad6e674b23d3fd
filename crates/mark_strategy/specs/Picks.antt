-- How the leaves of the shortest front are found again in the order of names: by the least size among them, and by how many of this size there are.
use Rattle.std.specs.Prelude.{◌≡◌, ℕ, ◌+◌, ◌-◌, ◌*◌, ◌≤◌, ◌==◌, ◌&&◌, ◌||◌, ⊤, Bool, List, [], ◌∷◌, length, map, sum, count_by, take, nat_lt, if◌then◌else◌}
use Rattle.std.specs.List.Sorted.{IsPermutation}
use Rattle.std.specs.List.{AllByRecursion}
use Rattle.mark_strategy.specs.Leaves.{Leaf, size_of}
use Rattle.mark_strategy.specs.Shares.{Fraction}

-- each size is at least all those after it
abbrev pub Fall : List ℕ → Type 0
Fall [] = ⊤
Fall (size ∷ sizes) = AllByRecursion (λ other. other ≤ size) sizes × Fall sizes

-- the sizes of the leaves, the greatest first
pub record AreFalling (values : List Leaf) (sizes : List ℕ) : Type 0 where
  pub same : IsPermutation (map size_of values) sizes
  pub fall : Fall sizes

-- the first `count` sizes are the fewest at the front that together are at least this share of all
pub record IsEnough (share : Fraction) (sizes : List ℕ) (count : ℕ) : Type 0 where
  pub within : count ≤ length sizes
  pub reach : share.part * sum sizes ≤ sum (take count sizes) * share.whole
  pub shortest : (fewer : ℕ) → share.part * sum sizes ≤ sum (take fewer sizes) * share.whole → count ≤ fewer

-- where the shortest front ends: the least size in it, and how many leaves of this size are in it
pub record IsCut (sizes : List ℕ) (count size ties : ℕ) : Type 0 where
  pub above : count_by (λ s. nat_lt size s) sizes + ties ≡ count
  pub few : ties ≤ count_by (λ s. s == size) sizes

-- a leaf is above the size, or of this size while some of them are to be taken
abbrev pub is_picked : ℕ → ℕ → Leaf → Bool
is_picked size ties leaf = nat_lt size (size_of leaf) || ((size_of leaf == size) && nat_lt 0 ties)

-- how many of this size are to be taken after a leaf
abbrev pub ties_after : ℕ → ℕ → Leaf → ℕ
ties_after size ties leaf = if (size_of leaf == size) then ties - 1 else ties

-- the leaves above a size, and so many of this size, the first in the list
abbrev pub picked : ℕ → ℕ → List Leaf → List Leaf
picked size ties [] = []
picked size ties (leaf ∷ leaves) =
    if is_picked size ties leaf then leaf ∷ picked size (ties_after size ties leaf) leaves else picked size (ties_after size ties leaf) leaves
