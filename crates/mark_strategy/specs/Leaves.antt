-- Leaves with their values, and how large these are.
use Rattle.std.specs.Prelude.{ℕ, ℤ, nat_abs, max, List, map, fold, sum_by}
use Rattle.std.specs.List.Sorted.{IsStrictlySortedBy}
use Rattle.mesh_names.specs.Names.{Name, name_cmp}

-- a leaf and its value
abbrev pub Leaf : Type 0
Leaf = Name × ℤ

-- the size of a leaf: its value without the sign
abbrev pub size_of : Leaf → ℕ
size_of leaf = nat_abs leaf.1

-- the sizes of these leaves together
abbrev pub total : List Leaf → ℕ
total leaves = sum_by size_of leaves

-- the greatest size of these leaves, and 0 where there is none
abbrev pub greatest : List Leaf → ℕ
greatest leaves = fold (λ size leaf. max size (size_of leaf)) 0 leaves

-- the names of these leaves
abbrev pub names_of : List Leaf → List Name
names_of leaves = map (λ (leaf : Leaf). leaf.0) leaves

-- each leaf once, in the order of names
abbrev pub AreLeaves : List Leaf → Type 0
AreLeaves values = IsStrictlySortedBy name_cmp (names_of values)
