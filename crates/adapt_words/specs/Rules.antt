-- What the word RULE of `mark` says.
use Rattle.std.specs.Prelude.{ℕ, ◌==◌, ◌&&◌, Bool, codes, bytes_eq, length, nat_le, if◌then◌else◌, Option, Some, None, option_and_then, option_map}
use Rattle.std.specs.List.{after_first, before_first}
use Rattle.std.specs.Str.{all_ascii_digits}
use Rattle.std.specs.Str.Parse.{digits_value}
use Rattle.mark_strategy.specs.Shares.{Fraction, share_of}
use Rattle.adapt_words.specs.Numbers.{Word, number_in}
use Rattle.adapt_words.specs.declared.rules.Rule.{Rule}
use Rattle.adapt_words.specs.declared.rules.Rule.TheVariants.{Max, Bulk, Equal}

-- what stands before and after the first of these bytes; all and nothing where there is none
abbrev pub front : ℕ → Word → Word
front mark word = before_first (λ c. c == mark) word

abbrev pub back : ℕ → Word → Word
back mark word = after_first (λ c. c == mark) word

-- P/Q: the share of two numbers with a `/` between them
unfoldable pub share_in : Word → Option Fraction
share_in word = option_and_then (λ part. option_and_then (share_of part) (number_in 1 1000000 (back 47 word))) (number_in 0 1000000 (front 47 word))

-- one to nineteen digits that give a number of at most 2^62
abbrev pub is_goal : Word → Bool
is_goal word = all_ascii_digits word && nat_le 1 (length word) && nat_le (length word) 19 && nat_le (digits_value 10 word) 4611686018427387904

-- G: the goal that a word gives
unfoldable pub goal_in : Word → Option ℕ
goal_in word = if is_goal word then Some (digits_value 10 word) else None

-- `max:P/Q`, `bulk:P/Q` or `equal:G`
unfoldable pub rule_in : Word → Option Rule
rule_in word =
    if bytes_eq (front 58 word) (codes "max") then option_map Max (share_in (back 58 word)) else
    if bytes_eq (front 58 word) (codes "bulk") then option_map Bulk (share_in (back 58 word)) else
    if bytes_eq (front 58 word) (codes "equal") then option_map Equal (goal_in (back 58 word)) else None
