-- How the bisection of a patch ends, in the view of its pass.
use Rattle.std.specs.Prelude.{◌≡◌, ℕ, ◌+◌, ◌*◌, ◌%◌, ◌<◌, ◌≤◌, List, ◌∷◌}
use Rattle.table_words.specs.Claims.{Claim, Failed, Living, claim}
use Rattle.table_words.specs.Entries.{HasEntry}
use Rattle.mesh_table.specs.Saw.{SawClaim, SawDraw, SawFree, SawBirth}
use Rattle.table_words.specs.Setup.{Setup}
use Rattle.mesh_table.specs.Lost.{ClaimLost}
use Rattle.mesh_table.specs.Sights.{Sight}
use Rattle.patch_claims.specs.declared.bisect.Bisected.{Bisected}
use Rattle.patch_claims.specs.declared.bisect.Bisected.TheVariants.{Claimed, Full, Published}
use Rattle.mesh_table.specs.Lost.{AllLiving}
use Rattle.patch_claims.specs.Claims.{AllLivingBut, IsFree}

-- no two names were found at one place
abbrev pub NamesApart : Sight → Type 0
NamesApart v = (x a b : ℕ) → HasEntry v.work.found (x, a) → HasEntry v.work.found (x, b) → a ≡ b

-- no name was found at the place of a child of the block
abbrev pub IsUnfound : Setup → Sight → ℕ → Type 0
IsUnfound s v b = (y a c : ℕ) → HasEntry v.work.found (y, a) → c < 4 → y ≡ s.elements + 4 * b + c → ⊥

-- where there was no claim of the place, the view has gained this claim
abbrev pub Gained : Sight → Sight → Claim → Type 0
Gained u v c = IsFree u.claims c.place → v.claims ≡ c ∷ u.claims

-- the claim of the patch of the first member k found a word with the bit set, which is told; or the claim's
-- draw found a number that is not below FREE, and both are told; or the patch is published as a block below
-- the pool, which was not known before, and its names are known as bisected
abbrev pub Ends : Setup → Sight → Sight → ℕ → ℕ → ℕ → ℕ → List ℕ → Bisected → Type 0
Ends s u v x m k pool names (Claimed n) = (n % 2 ≡ 1) × ClaimLost s u v x k n
Ends s u v x m k pool names (Full drawn free) = (free ≤ drawn) × ((n : ℕ) × (v.saw ≡ SawFree free ∷ SawDraw drawn ∷ SawClaim x n ∷ u.saw))
    × (AllLiving u.claims → AllLivingBut x v.claims) × Gained u v (claim x m Failed) × NamesApart u
Ends s u v x m k pool names (Published b) = (b < pool) × HasEntry v.claims (claim x m (Living b)) × ((k : ℕ) → HasEntry names k → HasEntry v.work.known k)
    × ((n d f : ℕ) × (v.saw ≡ SawBirth b ∷ SawFree f ∷ SawDraw d ∷ SawClaim x n ∷ u.saw)) × (AllLiving u.claims → AllLiving v.claims)
    × Gained u v (claim x m (Living b)) × NamesApart u × IsUnfound s u b
