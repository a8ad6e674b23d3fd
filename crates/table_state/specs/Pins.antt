-- Pins, and how many are taken.
use Rattle.std.specs.Prelude.{◌≡◌, ℕ, ◌+◌, ◌<◌, ◌≤◌, false}
use Rattle.table_words.specs.Setup.{Setup}
use Rattle.table_words.specs.Sums.{sum_below, one_where}
use Rattle.table_words.specs.Views.{Reader, Read, unread, Kind, Vacant}
use Rattle.mesh_names.specs.Names.{digit}

pub record PinsRule (s : Setup) (round taken : ℕ) (released : ℕ → ℕ) (n : ℕ) (kind : ℕ → Kind) (read : ℕ → Read) (pins : ℕ → ℕ) : Type 0 where
  pub now : pins round ≡ taken
  pub later : (q : ℕ) → round < q → (pins q ≡ 0) × (released q ≡ 0)
  -- the pins of a round were given back, or are in a view
  pub count : (q : ℕ) → pins q ≡ released q + sum_below n (λ j. one_where (read j).pin (q + 1))
  pub past : (j q : ℕ) → (read j).pin ≡ q + 1 → q ≤ round
  pub few : (j : ℕ) → n ≤ j → kind j ≡ Vacant
  -- only readers' passes have pins or are ready
  pub readers : (j : ℕ) → (kind j ≡ Reader → ⊥) → ((read j).pin ≡ 0) × ((read j).ready ≡ false)
  -- a seat of no kind, as one that was joined, has read nothing
  pub spent : (j : ℕ) → kind j ≡ Vacant → read j ≡ unread
  -- pins taken and passes that are ready to take one stay within the bound
  -- of no round were more pins taken than that
  pub most : (q : ℕ) → pins q ≤ s.limit + s.passes + 1
  pub bound : taken + sum_below n (λ j. digit (read j).ready) ≤ s.limit + s.passes + 1
