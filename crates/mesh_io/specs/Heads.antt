-- The first digits of a number of any length.
use Rattle.std.specs.Prelude.{◌≡◌, ℕ, ◌+◌, ◌*◌, ◌^◌, ◌<◌, ◌≤◌, ◌⊎◌}

-- m begins with the digits of kept, and dropped digits follow; none is dropped where kept has fewer than 28 digits
pub record Heads (m kept dropped : ℕ) : Type 0 where
  pub low : kept * 10 ^ dropped ≤ m
  pub high : m < (kept + 1) * 10 ^ dropped
  pub small : kept < 10 ^ 28
  pub full : (dropped ≡ 0) ⊎ (10 ^ 27 ≤ kept)
