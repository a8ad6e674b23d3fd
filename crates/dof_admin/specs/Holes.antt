-- The holes of a list of used flags, as they are kept: each once, the least on top.
use Rattle.std.specs.Prelude.{◌≡◌, ℕ, ◌+◌, ◌^◌, ◌≤◌, Bool, true, false, List, [], ◌∷◌, sum_by}
use Rattle.std.specs.Ordering.{nat_cmp}
use Rattle.std.specs.BinaryHeap.{IsHeap}
use Rattle.std.specs.declared.cmp.Reverse.{Reverse}

-- the indices that are not used, from `from` on, in order
abbrev pub holes_from : ℕ → List Bool → List ℕ
holes_from from [] = []
holes_from from (true ∷ flags) = holes_from (from + 1) flags
holes_from from (false ∷ flags) = from ∷ holes_from (from + 1) flags

-- a heap has exactly the holes, each once, and the least on top: every sum over its elements is that over the holes
pub record AreHoles (flags : List Bool) (heap : List (Reverse ℕ)) : Type 0 where
  pub ordered : IsHeap (λ x y. nat_cmp y.0 x.0) heap
  pub sums : (f : ℕ → ℕ) → sum_by (λ x. f x.0) heap ≡ sum_by f (holes_from 0 flags)

-- an administration has room for this many indices
pub record HasRoom (room size flags_room holes_room : ℕ) : Type 0 where
  pub within : size ≤ room
  pub numbered : room ≤ 2 ^ 31
  pub flags : room ≤ flags_room
  pub holes : room ≤ holes_room
