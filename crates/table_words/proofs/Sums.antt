-- Sums below a number.
use Rattle.std.proofs.Common.{◌≡◌, ◌≢◌, ℕ, zero, suc, ◌+◌, ◌<◌, ◌≤◌, Bool, cond, refl, sym, ap, arith, eq-eqb, ne_eqb}
use mathlib.Core.Logic.{dite}
use native.Mathlib.Decide.{ℕ_discrete}
use Rattle.table_words.specs.Sums.{sum_below, one_where}

pub sum_same : (n : ℕ) (f g : ℕ → ℕ) → ((i : ℕ) → i < n → g i ≡ f i) → sum_below n g ≡ sum_below n f
sum_same zero f g h = refl
sum_same (suc n) f g h = let a : sum_below n g ≡ sum_below n f = sum_same n f g (λ i l. h i (omega arith)) in let b : g n ≡ f n = h n (omega arith) in omega arith

-- one summand changes
pub sum_update : (n : ℕ) (f g : ℕ → ℕ) (k : ℕ) → k < n → ((i : ℕ) → i ≢ k → g i ≡ f i) → sum_below n g + f k ≡ sum_below n f + g k
sum_update zero f g k h same = absurd (omega arith)
sum_update (suc n) f g k h same = dite (ℕ_discrete k n)
    (λ e. let t : sum_below n g ≡ sum_below n f = sum_same n f g (λ i l. same i (λ (x : i ≡ k). omega arith)) in let a : f k ≡ f n = ap f e in let b : g k ≡ g n = ap g e in omega arith)
    (λ (ne : k ≢ n). let t = sum_update n f g k (omega arith) same in let a : g n ≡ f n = same n (λ (x : n ≡ k). ne (sym x)) in omega arith)

-- a sum of flags is at most their number
pub flags_below : (n : ℕ) (f : ℕ → ℕ) → ((i : ℕ) → f i ≤ 1) → sum_below n f ≤ n
flags_below zero f h = omega arith
flags_below (suc n) f h = let t = flags_below n f h in let a = h n in omega arith

-- one summand is at most the sum
pub summand : (m : ℕ) (f : ℕ → ℕ) (k : ℕ) → k < m → f k ≤ sum_below m f
summand zero f k l = absurd (omega arith)
summand (suc m) f k l = dite (ℕ_discrete k m) (λ e. let a : f k ≡ f m = ap f e in omega arith) (λ o. let t = summand m f k (omega arith) in omega arith)

pub sum_le : (n : ℕ) (f g : ℕ → ℕ) → ((i : ℕ) → f i ≤ g i) → sum_below n f ≤ sum_below n g
sum_le zero f g h = omega arith
sum_le (suc n) f g h = let a = sum_le n f g h in let b = h n in omega arith

pub one_if : (a b : ℕ) → a ≡ b → one_where a b ≡ 1
one_if a b e = ap (λ (t : Bool). cond {A = ℕ} t 1 0) (eq-eqb a b e)

pub none_if : (a b : ℕ) → a ≢ b → one_where a b ≡ 0
none_if a b e = ap (λ (t : Bool). cond {A = ℕ} t 1 0) (ne_eqb a b e)
