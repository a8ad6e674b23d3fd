-- Blocks that were rolled back become free.
use Rattle.std.specs.Prelude.{◌≡◌, ℕ, Bool, true, false, List, ◌++◌}
use Rattle.table_words.specs.Entries.{HasEntry}
use Rattle.table_words.specs.Views.{Resting, Owner}
use Rattle.mesh_table.specs.Sights.{Sight}
use Rattle.mesh_table.specs.Rounds.{DrainedTo, freed}

-- each of the blocks was rolled back, and no pin is out of a round before the last finished one
pub record MayTry (v : Sight) (blocks : List ℕ) : Type 0 where
  pub rules : v.kind ≡ Owner
  pub rests : v.ruling.phase ≡ Resting
  pub rolled_back : (b : ℕ) → HasEntry blocks b → HasEntry v.ruling.rolled_back b
  pub drained : DrainedTo v v.ruling.finished

-- they are free and in the owner's hand; or nothing changed but what was seen of pins
abbrev pub Tried : Sight → Sight → List ℕ → Bool → Type 0
Tried u v blocks true = (v.ruling.hand ≡ blocks ++ u.ruling.hand)
    × (v ≡ record u { ruling = record (freed u blocks).ruling { seen = v.ruling.seen; quiet = v.ruling.quiet } })
Tried u v blocks false = v ≡ record u { ruling = record u.ruling { seen = v.ruling.seen; quiet = v.ruling.quiet } }
