-- The numbers of a command's words, and their ranges.
use Rattle.std.specs.Prelude.{◌≤◌, ℕ, List, codes, Option, option_and_then}
use Rattle.clap.specs.Words.{Row}
use Rattle.adapt_words.specs.Commands.{word_of}
use Rattle.adapt_words.specs.Numbers.{Word, number_in, number_or}

-- the number of a word that has to stand
abbrev pub number_of : Word → ℕ → ℕ → List Row → Option ℕ
number_of id low high rows = option_and_then (number_in low high) (word_of id rows)

-- the number of workers: 1 to 64, and 4 where none is given
abbrev pub workers_in : List Row → Option ℕ
workers_in rows = number_or 4 1 64 (word_of (codes "workers") rows)

-- the size of the pool: 1 to 1048576, and 65536 where none is given
abbrev pub pool_in : List Row → Option ℕ
pool_in rows = number_or 65536 1 1048576 (word_of (codes "pool") rows)

-- numbers of workers and pools lie in their ranges
abbrev pub AreLimits : ℕ → ℕ → Type 0
AreLimits workers pool = (1 ≤ workers) × (workers ≤ 64) × (1 ≤ pool) × (pool ≤ 1048576)
