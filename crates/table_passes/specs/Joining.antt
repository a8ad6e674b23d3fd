-- What the owner has once passes of the second half are joined.
use Rattle.std.specs.Prelude.{◌≡◌, ℕ, List, ◌++◌, false, reverse}
use Rattle.table_words.specs.Entries.{HasEntry}
use Rattle.mesh_table.specs.Sights.{Sight}

-- the owner has taken over what passes did that retired these blocks: it has the claims that it had, and knows those names as not bisected that it did
pub record HasTaken (u v : Sight) (blocks : List ℕ) : Type 0 where
  pub kind : v.kind ≡ u.kind
  pub claims : v.claims ≡ u.claims
  pub history : v.ruling.history ≡ u.ruling.history
  pub finished : v.ruling.finished ≡ u.ruling.finished
  pub phase : v.ruling.phase ≡ u.ruling.phase
  pub plan : v.ruling.plan ≡ u.ruling.plan
  pub workers : v.ruling.workers ≡ u.ruling.workers
  pub ruling : v.ruling ≡ record u.ruling { lone = false }
  pub open_ : (k : ℕ) → HasEntry u.work.open_ k → HasEntry v.work.open_ k
  pub retired : v.work.retired ≡ u.work.retired ++ reverse blocks
