-- Shares of a whole.
use Rattle.std.specs.Prelude.{ℕ, ◌≤◌, ◌&&◌, Bool, nat_le, if◌then◌else◌, Option, Some, None}

-- so many parts of a whole
pub record Fraction : Type 0 where
  pub part : ℕ
  pub whole : ℕ

-- the numbers are those of a share: at most the whole, which is from 1 to 1,000,000
abbrev pub IsShare : ℕ → ℕ → Type 0
IsShare part whole = (part ≤ whole) × (1 ≤ whole) × (whole ≤ 1000000)

-- whether they are
abbrev pub is_share : ℕ → ℕ → Bool
is_share part whole = nat_le part whole && nat_le 1 whole && nat_le whole 1000000

-- the share of these numbers
unfoldable pub share_of : ℕ → ℕ → Option Fraction
share_of part whole = if is_share part whole then Some (record { part = part; whole = whole }) else None
