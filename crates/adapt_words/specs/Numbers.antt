-- The numbers that words give.
use Rattle.std.specs.Prelude.{ℕ, ◌&&◌, Bool, List, length, nat_le, if◌then◌else◌, Option, Some, None}
use Rattle.std.specs.Str.{all_ascii_digits}
use Rattle.std.specs.Str.Parse.{digits_value}

-- the bytes of a word
abbrev pub Word : Type 0
Word = List ℕ

-- one to seven digits and nothing else
abbrev pub is_number : Word → Bool
is_number word = all_ascii_digits word && nat_le 1 (length word) && nat_le (length word) 7

-- one to seven digits that give a number from `low` to `high`
abbrev pub is_number_in : ℕ → ℕ → Word → Bool
is_number_in low high word = is_number word && nat_le low (digits_value 10 word) && nat_le (digits_value 10 word) high

-- the number from `low` to `high` that a word gives
unfoldable pub number_in : ℕ → ℕ → Word → Option ℕ
number_in low high word = if is_number_in low high word then Some (digits_value 10 word) else None

-- the same where the word may have been left out, and what stands for it then
abbrev pub number_or : ℕ → ℕ → ℕ → Option Word → Option ℕ
number_or left_out low high None = Some left_out
number_or left_out low high (Some word) = number_in low high word
