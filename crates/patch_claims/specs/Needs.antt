-- What a call that makes a name bisected answers, in the view of its pass.
use Rattle.std.specs.Prelude.{◌≡◌, ℕ, ◌%◌, ◌<◌, ◌≤◌, List, ◌∷◌, ◌++◌}
use Rattle.mesh_names.specs.Names.{Name}
use Rattle.mesh_names.specs.Partners.{Across}
use Rattle.mesh_names.specs.Patches.{patch_of}
use Rattle.table_words.specs.Entries.{HasEntry}
use Rattle.table_words.specs.NameWords.{name_code}
use Rattle.table_words.specs.Setup.{Setup}
use Rattle.table_words.specs.declared.layout.Layout.{Layout}
use Rattle.table_words.specs.Layout.{IsElemAt}
use Rattle.table_words.specs.Places.{place_number}
use Rattle.mesh_table.specs.Saw.{Saw, SawClaim, SawDraw, SawFree, SawEnd}
use Rattle.mesh_table.specs.Sights.{Sight}
use Rattle.patch_walk.specs.Wiser.{KnowsBisected}
use Rattle.patch_claims.specs.declared.needs.ClaimRefusal.{ClaimRefusal}
use Rattle.patch_claims.specs.declared.needs.ClaimRefusal.TheVariants.{Deferred, Full}
use Rattle.patch_claims.specs.declared.needs.Made.{Made}
use Rattle.patch_claims.specs.declared.needs.Stood.{Stood}
use Rattle.patch_claims.specs.Accounts.{births}
use Rattle.mesh_table.specs.Lost.{AllLiving, IsAnothers}
use Rattle.patch_claims.specs.Claims.{AllLivingBut}

-- the account has grown by news, with this many births
abbrev pub HasPublished : Sight → Sight → ℕ → Type 0
HasPublished u v n = (news : List Saw) × (v.saw ≡ news ++ u.saw) × (births news ≡ n)

-- the name k is known as bisected by the block's member, its children's places are found, and the call published so many blocks
pub record IsMade (s : Setup) (u v : Sight) (k : ℕ) (r : Made) : Type 0 where
  pub room : r.block < s.pool
  pub knows : KnowsBisected s v k r.block r.second
  pub living : AllLiving v.claims
  pub published : HasPublished u v r.patches

-- the place of the name k is found
pub record IsStood (l : Layout) (u v : Sight) (k : ℕ) (r : Stood) : Type 0 where
  pub place : IsElemAt l r.at
  pub found : HasEntry v.work.found (place_number l r.at, k)
  pub living : AllLiving v.claims
  pub published : HasPublished u v r.patches

-- The causes of a refusal. Deferred: the last steps of the call are a claim of the owner's place, which found
-- this word with the bit set, and a walk after it for a needed name of the owner's patch, which found no
-- living block; the claim is another pass's, and this pass is not worker 0's. Full: they are the claim, its
-- draw, which found this number, and a load of FREE, which is no greater.
abbrev pub Refused : Across → (Name → Type 0) → Sight → Sight → ClaimRefusal → Type 0
Refused across Needed u v (Deferred owner n) = (n % 2 ≡ 1) × ((m : Name) × Needed m × ((patch_of across m).first ≡ owner) × ((x : ℕ)
    × HasEntry v.work.found (x, name_code owner) × IsAnothers v x × ((news : List Saw) × (v.saw ≡ SawEnd (name_code m) ∷ SawClaim x n ∷ (news ++ u.saw)))))
    × AllLiving v.claims
Refused across Needed u v (Full drawn free spot) = (free ≤ drawn) × ((x n : ℕ) × ((news : List Saw)
    × (v.saw ≡ SawFree free ∷ SawDraw drawn ∷ SawClaim x n ∷ (news ++ u.saw))) × AllLivingBut x v.claims)
