-- What a pass learns where the patch that it wants is claimed already.
use Rattle.std.specs.Prelude.{◌≡◌, ℕ, ◌+◌, List, ◌∷◌, ◌⊎◌}
use Rattle.table_words.specs.Claims.{Claim, Progress, Living, claim}
use Rattle.table_words.specs.Entries.{HasEntry}
use Rattle.table_words.specs.Setup.{Setup}
use Rattle.mesh_table.specs.Saw.{SawClaim}
use Rattle.mesh_table.specs.Sights.{Sight}

-- each claim has a living block
abbrev pub AllLiving : List Claim → Type 0
AllLiving cs = (c : Claim) → HasEntry cs c → (b : ℕ) × (c.progress ≡ Living b)

-- both members of the patch whose first is k are known as bisected
abbrev pub KnowsPatch : Setup → Sight → ℕ → Type 0
KnowsPatch s v k = HasEntry v.work.known k × ((i : ℕ) → s.mate k ≡ i + 1 → HasEntry v.work.known (i + 1))

-- no claim of the view is of the place x, and it is not of worker 0
abbrev pub IsAnothers : Sight → ℕ → Type 0
IsAnothers v x = ((m : ℕ) (p : Progress) → HasEntry v.claims (claim x m p) → ⊥) × (v.work.number ≡ 0 → ⊥)

-- the LINK word n of the place x has the claim bit: the pass keeps what it has and knows; and where each of its
-- claims has a living block, it knows the patch as bisected from then on, or the claim is another pass's, and this pass is not worker 0's
pub record ClaimLost (s : Setup) (u v : Sight) (x k n : ℕ) : Type 0 where
  pub kind : v.kind ≡ u.kind
  pub claims : v.claims ≡ u.claims
  pub read : v.read ≡ u.read
  pub half : v.work.half ≡ u.work.half
  pub round : v.work.round ≡ u.work.round
  pub number : v.work.number ≡ u.work.number
  pub plan : v.work.plan ≡ u.work.plan
  pub found : (a : ℕ × ℕ) → HasEntry u.work.found a → HasEntry v.work.found a
  pub known : (a : ℕ) → HasEntry u.work.known a → HasEntry v.work.known a
  pub absent : (a : ℕ) → HasEntry u.work.absent a → HasEntry v.work.absent a
  pub saw : v.saw ≡ SawClaim x n ∷ u.saw
  pub cause : AllLiving u.claims → KnowsPatch s v k ⊎ IsAnothers u x
