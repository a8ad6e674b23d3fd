-- Whole numbers of any length, as the reader holds them.
use Rattle.std.specs.Prelude.{ℕ, ℤ, pos, negsuc, min}

-- a size of at most 10 ^ 18
abbrev pub capped_size : ℕ → ℕ
capped_size n = min n 1000000000000000000

-- the number, or 10 ^ 18 with its sign where it is larger
abbrev pub capped : ℤ → ℤ
capped (pos n) = pos (capped_size n)
capped (negsuc n) = negsuc (min n 999999999999999999)
