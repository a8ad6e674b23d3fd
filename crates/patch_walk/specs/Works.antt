-- What a pass keeps while it works.
use Rattle.std.specs.Prelude.{◌≡◌, ℕ}
use Rattle.table_words.specs.Entries.{HasEntry}
use Rattle.mesh_table.specs.Sights.{Sight}

-- v knows all that u did of the work
pub record Works (u v : Sight) : Type 0 where
  pub kind : v.kind ≡ u.kind
  pub half : v.work.half ≡ u.work.half
  pub round : v.work.round ≡ u.work.round
  pub number : v.work.number ≡ u.work.number
  pub plan : v.work.plan ≡ u.work.plan
  pub found : (a : ℕ × ℕ) → HasEntry u.work.found a → HasEntry v.work.found a
  pub known : (a : ℕ) → HasEntry u.work.known a → HasEntry v.work.known a
  pub absent : (a : ℕ) → HasEntry u.work.absent a → HasEntry v.work.absent a
