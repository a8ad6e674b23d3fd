-- Sums and counts below a number.
use Rattle.std.specs.Prelude.{ℕ, zero, suc, ◌+◌, ◌==◌, cond}

-- f 0 + .. + f (n - 1)
abbrev pub sum_below : ℕ → (ℕ → ℕ) → ℕ
sum_below zero f = 0
sum_below (suc n) f = sum_below n f + f n

-- 1 where the numbers are one, else 0
abbrev pub one_where : ℕ → ℕ → ℕ
one_where a b = cond (a == b) 1 0
