-- Rounds that are drained.
use Rattle.std.specs.Prelude.{◌≡◌, ℕ, ◌<◌, List, length, slice_index}
use Rattle.table_words.specs.Entries.{HasEntry}
use Rattle.mesh_table.specs.Sights.{Sight}

-- no pin of a round below n is out
abbrev pub AllDrained : Sight → ℕ → Type 0
AllDrained v n = (q : ℕ) → q < n → HasEntry v.ruling.drained q

-- the list has the pins of the rounds that were left
abbrev pub AreLeft : Sight → List ℕ → Type 0
AreLeft v left = (q : ℕ) → q < length left → HasEntry v.ruling.left (q, slice_index left q)

-- more rounds are drained, and nothing else changed
pub record MoreDrained (u v : Sight) : Type 0 where
  pub same : v ≡ record u { ruling = record u.ruling { drained = v.ruling.drained } }
  pub more : (q : ℕ) → HasEntry u.ruling.drained q → HasEntry v.ruling.drained q
