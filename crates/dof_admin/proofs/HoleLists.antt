-- The list of the holes when an index is used, given back, or added.
use Rattle.std.proofs.Common.{◌≡◌, ℕ, zero, suc, ◌+◌, ◌<◌, Bool, true, false, List, [], ◌∷◌, ◌++◌, get_or, length, refl, ap, sym, ◌∙◌, arith, cond, replicate, true≢false, take, drop, add-one}
use Rattle.std.proofs.Math.ListN.{set}
use Rattle.std.proofs.lemmas.List.{set-set, set-get_or, length-set, get_or-set_same}
use Rattle.std.proofs.lemmas.List.Sums.{sum_by-cons}
use Rattle.std.specs.List.{sum_by, Contains}
use Rattle.dof_admin.specs.Administration.{used_count, with_used}
use Rattle.dof_admin.specs.Holes.{holes_from}

pub used_count-cons : (u : Bool) (flags : List Bool) → used_count (u ∷ flags) ≡ cond u 1 0 + used_count flags
used_count-cons u flags = sum_by-cons (λ (u : Bool). cond u 1 0) u flags

-- each index below the size is used or a hole
pub length-holes : (n : ℕ) (flags : List Bool) → length (holes_from n flags) + used_count flags ≡ length flags
length-holes n [] = refl
length-holes n (true ∷ flags) = omega (arith, length-holes (n + 1) flags, used_count-cons true flags)
length-holes n (false ∷ flags) = omega (arith, length-holes (n + 1) flags, used_count-cons false flags)

-- an index that is used leaves the holes
pub holes-used : (f : ℕ → ℕ) (n : ℕ) (flags : List Bool) (i j : ℕ) → i < length flags → get_or flags i false ≡ false → j ≡ n + i → sum_by f (holes_from n flags) ≡ f j + sum_by f (holes_from n (set flags i true))
holes-used f n [] i j within unused is = absurd (omega arith)
holes-used f n (true ∷ flags) zero j within unused is = absurd (true≢false unused)
holes-used f n (false ∷ flags) zero j within unused is =
    let same : n ≡ j = omega arith in
    omega (arith, sum_by-cons f n (holes_from (n + 1) flags), ap f same)
holes-used f n (true ∷ flags) (suc i) j within unused is = holes-used f (n + 1) flags i j (omega arith) unused (omega arith)
holes-used f n (false ∷ flags) (suc i) j within unused is =
    omega (arith, holes-used f (n + 1) flags i j (omega arith) unused (omega arith), sum_by-cons f n (holes_from (n + 1) flags), sum_by-cons f n (holes_from (n + 1) (set flags i true)))

-- an index that is given back joins them
pub holes-given : (f : ℕ → ℕ) (flags : List Bool) (i : ℕ) → i < length flags → get_or flags i false ≡ true → sum_by f (holes_from 0 (set flags i false)) ≡ f i + sum_by f (holes_from 0 flags)
holes-given f flags i within used =
    let again : set (set flags i false) i true ≡ flags = set-set flags i false true ∙ ap (set flags i) (sym used) ∙ set-get_or flags i false in
    let there : i < length (set flags i false) = omega (arith, length-set flags i false) in
    holes-used f 0 (set flags i false) i i there (get_or-set_same flags i false false within) (omega arith) ∙ ap (λ (l : List Bool). f i + sum_by f (holes_from 0 l)) again

-- a new index that is used is no hole
pub holes-pushed : (n : ℕ) (flags : List Bool) → holes_from n (flags ++ true ∷ []) ≡ holes_from n flags
holes-pushed n [] = refl
holes-pushed n (true ∷ flags) = holes-pushed (n + 1) flags
holes-pushed n (false ∷ flags) = ap (λ (l : List ℕ). n ∷ l) (holes-pushed (n + 1) flags)

-- where all are used there is no hole
pub holes-all_used : (n m : ℕ) → holes_from n (replicate m true) ≡ []
holes-all_used n zero = refl
holes-all_used n (suc m) = holes-all_used (n + 1) m

-- j stands for the hole at i, where the list begins at n
abbrev pub IsHoleFrom : ℕ → List Bool → ℕ → Type 0
IsHoleFrom n flags j = (i : ℕ) × (j ≡ n + i) × (i < length flags) × (get_or flags i false ≡ false)

next_hole : (n : ℕ) (u : Bool) (flags : List Bool) (j : ℕ) → IsHoleFrom (n + 1) flags j → IsHoleFrom n (u ∷ flags) j
next_hole n u flags j h = (suc h.0, omega arith, omega arith, h.3)

-- each listed index is a hole
pub holes-are : (n : ℕ) (flags : List Bool) (j : ℕ) → Contains (holes_from n flags) j → IsHoleFrom n flags j
holes-are n [] j h = absurd (omega arith)
holes-are n (true ∷ flags) j h = next_hole n true flags j (holes-are (n + 1) flags j h)
holes-are n (false ∷ flags) j (zero, within, is) = (zero, omega arith, omega arith, refl)
holes-are n (false ∷ flags) j (suc k, within, is) = next_hole n false flags j (holes-are (n + 1) flags j (k, omega arith, is))

-- each hole is listed
pub holes-list : (n : ℕ) (flags : List Bool) (i j : ℕ) → i < length flags → get_or flags i false ≡ false → j ≡ n + i → Contains (holes_from n flags) j
holes-list n [] i j within unused is = absurd (omega arith)
holes-list n (true ∷ flags) zero j within unused is = absurd (true≢false unused)
holes-list n (false ∷ flags) zero j within unused is = (zero, omega arith, omega arith)
holes-list n (true ∷ flags) (suc i) j within unused is = holes-list (n + 1) flags i j (omega arith) unused (omega arith)
holes-list n (false ∷ flags) (suc i) j within unused is =
    let h : Contains (holes_from (n + 1) flags) j = holes-list (n + 1) flags i j (omega arith) unused (omega arith) in
    (suc h.0, omega arith, h.2)

-- a flag that is set stands between what is below and above it
set-between : (flags : List Bool) (i : ℕ) → i < length flags → set flags i true ≡ take i flags ++ true ∷ drop (suc i) flags
set-between [] i within = absurd (omega arith)
set-between (u ∷ flags) zero within = refl
set-between (u ∷ flags) (suc i) within = ap (λ (l : List Bool). u ∷ l) (set-between flags i (omega arith))

pub set-with_used : (flags : List Bool) (i : ℕ) → i < length flags → set flags i true ≡ with_used flags i
set-with_used flags i within = rw add-one (set-between flags i within)

-- a flag that is added stands at the end
push-between : (flags : List Bool) → flags ++ true ∷ [] ≡ take (length flags) flags ++ true ∷ drop (suc (length flags)) flags
push-between [] = refl
push-between (u ∷ flags) = ap (λ (l : List Bool). u ∷ l) (push-between flags)

pub push-with_used : (flags : List Bool) → flags ++ true ∷ [] ≡ with_used flags (length flags)
push-with_used flags = rw add-one (push-between flags)
