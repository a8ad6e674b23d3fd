-- The digits of the head line.
use Rattle.std.specs.Prelude.{◌≡◌, ℕ, ◌≤◌, ◌==◌, Bool, List}
use Rattle.std.specs.Fmt.{decimal}
use Rattle.restart_file.specs.Files.{part_limit}

-- the byte is a newline
abbrev pub is_newline : ℕ → Bool
is_newline c = c == 10

-- the digits are those of a number of bytes that a macro part can have
pub record IsCount (digits : List ℕ) (m : ℕ) : Type 0 where
  pub few : m ≤ part_limit
  pub digits_are : digits ≡ decimal m
