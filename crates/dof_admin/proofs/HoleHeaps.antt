-- The heap of holes when an index is got or given back.
use Rattle.std.proofs.Common.{◌≡◌, ℕ, zero, suc, ◌+◌, ◌<◌, ◌≤◌, Bool, true, false, cond, List, [], ◌∷◌, ◌++◌, get_or, length, replicate, refl, ap, sym, ◌∙◌, arith, true≢false, eqb}
use Rattle.std.proofs.Math.ListN.{set}
use Rattle.std.proofs.lemmas.List.{length-set}
use Rattle.std.proofs.lemmas.Bool.{eq-eqb, eqb-true}
use Rattle.std.proofs.lemmas.Map.Keys.{ge_from_not_lt}
use Rattle.std.proofs.lemmas.List.Elements.{All-from_recursion}
use Rattle.std.proofs.lemmas.List.Sums.{sum_by-cons, get_or-le-sum_by}
use Rattle.std.proofs.lemmas.List.Sorted.{sum_by-IsPermutation}
use Rattle.std.specs.List.{Contains, sum_by}
use Rattle.std.specs.List.Sorted.{IsPermutation}
use Rattle.std.specs.Ordering.{nat_cmp, is_lt}
use Rattle.std.specs.BinaryHeap.{IsHeap, KeepsHeap, PopsGreatest}
use Rattle.std.specs.declared.cmp.Reverse.{Reverse}
use Rattle.dof_admin.specs.Administration.{IsLeastUnused, used_count}
use Rattle.dof_admin.specs.Holes.{AreHoles, holes_from}
use Rattle.dof_admin.proofs.HoleLists.{length-holes, holes-used, holes-given, holes-pushed, holes-all_used, holes-are, holes-list}

sum_by-one : {X : Type 0} (xs : List X) → sum_by (λ (_ : X). 1) xs ≡ length xs
sum_by-one [] = refl
sum_by-one {X} (x ∷ xs) = omega (arith, sum_by-cons (λ (_ : X). 1) x xs, sum_by-one xs)

abbrev hit : ℕ → ℕ → ℕ
hit j k = cond (eqb k j) 1 0

-- an element is counted
counted : {X : Type 0} (f : X → ℕ) (xs : List X) (j : ℕ) → (k : ℕ) (d : X) → k < length xs → f (get_or xs k d) ≡ j → 1 ≤ sum_by (λ x. hit j (f x)) xs
counted f xs j k d within is = omega (arith, get_or-le-sum_by (λ x. hit j (f x)) xs k d within, ap (hit j) is, ap {B = ℕ} (λ (b : Bool). cond b 1 0) (eq-eqb j j refl))

-- and what is counted is an element
found : {X : Type 0} (f : X → ℕ) (xs : List X) (j : ℕ) → 1 ≤ sum_by (λ x. hit j (f x)) xs → (k : ℕ) × (k < length xs) × ((d : X) → f (get_or xs k d) ≡ j)
found f [] j h = absurd (omega arith)
found {X} f (x ∷ xs) j h =
    elim (eqb (f x) j) as (λ (b : Bool). eqb (f x) j ≡ b → (k : ℕ) × (k < length (x ∷ xs)) × ((d : X) → f (get_or (x ∷ xs) k d) ≡ j)) [
      | true ↦ λ (e : eqb (f x) j ≡ true). (zero, omega arith, λ d. eqb-true (f x) j e)
      | false ↦ λ (e : eqb (f x) j ≡ false).
          let rest = found f xs j (omega (arith, sum_by-cons (λ x. hit j (f x)) x xs, ap {B = ℕ} (λ (b : Bool). cond b 1 0) e)) in
          (suc rest.0, omega arith, rest.2)
    ] refl

pub heap-count : (flags : List Bool) (heap : List (Reverse ℕ)) → AreHoles flags heap → length heap + used_count flags ≡ length flags
heap-count flags heap h = omega (arith, length-holes 0 flags, h.sums (λ _. 1), sum_by-one heap, sum_by-one (holes_from 0 flags))

by_cases : (b : Bool) → (b ≡ false → ⊥) → b ≡ true
by_cases true h = refl
by_cases false h = absurd (h refl)

pub heap-empty : (flags : List Bool) (heap : List (Reverse ℕ)) → AreHoles flags heap → length heap ≡ 0 → (j : ℕ) → j < length flags → get_or flags j false ≡ true
heap-empty flags heap h none j within =
    by_cases _ (λ (e : get_or flags j false ≡ false).
    let listed : Contains (holes_from 0 flags) j = holes-list 0 flags j j within e (omega arith) in
    omega (arith, h.sums (λ _. 1), sum_by-one heap, sum_by-one (holes_from 0 flags)))

-- the top of the heap is the least hole
pub record IsTop (flags : List Bool) (top : ℕ) : Type 0 where
  pub within : top < length flags
  pub unused : get_or flags top false ≡ false
  pub least : (j : ℕ) → j < top → get_or flags j false ≡ true

popped : (f : ℕ → ℕ) (flags : List Bool) (old new : List (Reverse ℕ)) (x : Reverse ℕ) → AreHoles flags old → IsPermutation old (x ∷ new) → f x.0 + sum_by (λ (y : Reverse ℕ). f y.0) new ≡ sum_by f (holes_from 0 flags)
popped f flags old new x h perm = omega (arith, h.sums f, sum_by-IsPermutation (λ (y : Reverse ℕ). f y.0) old (x ∷ new) perm, sum_by-cons (λ (y : Reverse ℕ). f y.0) x new)

pub heap-top : (flags : List Bool) (old new : List (Reverse ℕ)) (x : Reverse ℕ) → AreHoles flags old → IsPermutation old (x ∷ new) → PopsGreatest (λ x y. nat_cmp y.0 x.0) old x new → IsTop flags x.0
heap-top flags old new x h perm pops =
    let here = found (λ (n : ℕ). n) (holes_from 0 flags) x.0 (omega (arith, popped (hit x.0) flags old new x h perm, ap {B = ℕ} (λ (b : Bool). cond b 1 0) (eq-eqb x.0 x.0 refl))) in
    let is = holes-are 0 flags x.0 (here.0, here.1, here.2 x.0) in
    let same : x.0 ≡ is.0 = omega arith in
    let bound = All-from_recursion (λ (y : Reverse ℕ). is_lt (nat_cmp y.0 x.0) ≡ false) old (pops h.ordered).1 in
    record {
      within = omega arith;
      unused = ap (λ (n : ℕ). get_or flags n false) same ∙ is.3;
      least = λ j below. by_cases (get_or flags j false) (λ (e : get_or flags j false ≡ false).
          let within : j < length flags = omega arith in
          let listed : Contains (holes_from 0 flags) j = holes-list 0 flags j j within e (omega arith) in
          let there : (k : ℕ) × (k < length old) × ((d : Reverse ℕ) → (get_or old k d).0 ≡ j) = found (λ (y : Reverse ℕ). y.0) old j (omega (arith, h.sums (hit j), counted (λ (n : ℕ). n) (holes_from 0 flags) j listed.0 j listed.1 listed.2)) in
          omega (arith, ge_from_not_lt (get_or old there.0 x).0 x.0 (bound there.0 x there.1), there.2 x));
    }

pub heap-used : (flags : List Bool) (old new : List (Reverse ℕ)) (x : Reverse ℕ) → AreHoles flags old → IsPermutation old (x ∷ new) → PopsGreatest (λ x y. nat_cmp y.0 x.0) old x new → AreHoles (set flags x.0 true) new
heap-used flags old new x h perm pops =
    let top = heap-top flags old new x h perm pops in
    record {
      ordered = (pops h.ordered).0;
      sums = λ f. omega (arith, popped f flags old new x h perm, holes-used f 0 flags x.0 x.0 top.within top.unused (omega arith));
    }

pub heap-given : (flags : List Bool) (old new : List (Reverse ℕ)) (x : Reverse ℕ) → AreHoles flags old → x.0 < length flags → get_or flags x.0 false ≡ true → IsPermutation (x ∷ old) new → KeepsHeap (λ x y. nat_cmp y.0 x.0) old new → AreHoles (set flags x.0 false) new
heap-given flags old new x h within used perm keeps = record {
  ordered = keeps h.ordered;
  sums = λ f. omega (arith, h.sums f, holes-given f flags x.0 within used, sum_by-IsPermutation (λ (y : Reverse ℕ). f y.0) (x ∷ old) new perm, sum_by-cons (λ (y : Reverse ℕ). f y.0) x old);
}

pub heap-pushed : (flags : List Bool) (heap : List (Reverse ℕ)) → AreHoles flags heap → AreHoles (flags ++ true ∷ []) heap
heap-pushed flags heap h = record { ordered = h.ordered; sums = λ f. h.sums f ∙ ap (sum_by f) (sym (holes-pushed 0 flags)) }

-- only an index below the size is used
pub used-within : (flags : List Bool) (i : ℕ) → get_or flags i false ≡ true → i < length flags
used-within [] i used = absurd (true≢false (sym used))
used-within (u ∷ flags) zero used = omega arith
used-within (u ∷ flags) (suc i) used = omega (arith, used-within flags i used)

-- there are fewer holes than indices where one is used
pub heap-below : (flags : List Bool) (heap : List (Reverse ℕ)) (i : ℕ) → AreHoles flags heap → get_or flags i false ≡ true → length heap + 1 ≤ length flags
heap-below flags heap i h used =
    let within : i < length flags = used-within flags i used in
    omega (arith, h.sums (λ _. 1), sum_by-one heap, holes-given (λ _. 1) flags i within used, sum_by-one (holes_from 0 (set flags i false)), length-holes 0 (set flags i false), length-set flags i false)

-- at and above the size no index is used
beyond : (flags : List Bool) (i : ℕ) → length flags ≤ i → get_or flags i false ≡ false
beyond [] i above = refl
beyond (u ∷ flags) zero above = absurd (omega arith)
beyond (u ∷ flags) (suc i) above = beyond flags i (omega arith)

pub top-least : (flags : List Bool) (top : ℕ) → IsTop flags top → IsLeastUnused flags top
top-least flags top h = record { unused = h.unused; least = h.least }

pub end-least : (flags : List Bool) (heap : List (Reverse ℕ)) → AreHoles flags heap → length heap ≡ 0 → IsLeastUnused flags (length flags)
end-least flags heap h none = record { unused = beyond flags (length flags) (omega arith); least = heap-empty flags heap h none }

-- where all are used, an empty heap has all holes
pub heap-all_used : (n : ℕ) (heap : List (Reverse ℕ)) → heap ≡ [] → IsHeap (λ x y. nat_cmp y.0 x.0) heap → AreHoles (replicate n true) heap
heap-all_used n heap none ordered = record { ordered = ordered; sums = λ f. ap (sum_by (λ (x : Reverse ℕ). f x.0)) none ∙ ap (sum_by f) (sym (holes-all_used 0 n)) }
