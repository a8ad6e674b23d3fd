-- The patches that a pass published, in a list, beside the claims of its view.
use Rattle.std.specs.Prelude.{◌≡◌, ℕ, ◌<◌, Bool, false, List, [], ◌∷◌, Option, None, Some, All, IfSome}
use Rattle.table_words.specs.declared.layout.Layout.{Layout}
use Rattle.table_words.specs.Claims.{Claim, Failed, Living, claim}
use Rattle.table_words.specs.Entries.{HasEntry}
use Rattle.table_words.specs.Layout.{IsElemAt}
use Rattle.table_words.specs.NameWords.{name_code}
use Rattle.table_words.specs.Places.{child_place, place_number}
use Rattle.table_words.specs.Setup.{Setup}
use Rattle.mesh_table.specs.Lost.{KnowsPatch}
use Rattle.mesh_table.specs.Sights.{Sight, setup_at}
use Rattle.mesh_table.specs.Told.{mate_number, codes}
use Rattle.mesh_table.specs.declared.rule.Site.{Site}
use Rattle.patch_claims.specs.Claims.{AreApart, IsFree}
use Rattle.patch_claims.specs.declared.patch.Patch.{Patch}
use Rattle.patch_claims.specs.declared.patch.Spot.{Spot}
use Rattle.patch_claims.specs.declared.needs.ClaimRefusal.{ClaimRefusal}
use Rattle.patch_claims.specs.declared.needs.ClaimRefusal.TheVariants.{Deferred, Full}

-- the claim of a published patch
abbrev pub claim_of : Layout → Patch → Claim
claim_of l p = claim (place_number l p.spot.first) (mate_number l p.spot.second) (Living p.block)

-- the claims of published patches, the last of the list first, before others
abbrev pub claims_before : Layout → List Patch → List Claim → List Claim
claims_before l [] cs = cs
claims_before l (p ∷ ps) cs = claims_before l ps (claim_of l p ∷ cs)

abbrev pub AreWithin : Layout → Spot → Type 0
AreWithin l a = IsElemAt l a.first × IfSome a.second (IsElemAt l)

-- the claim has a living block, its patch is known as bisected, and a child of it is found
pub record IsOwn (s : Setup) (v : Sight) (c : Claim) : Type 0 where
  pub block : ℕ
  pub lives : c.progress ≡ Living block
  pub room : block < s.pool
  pub first : ℕ
  pub found : HasEntry v.work.found (c.place, first)
  pub known : KnowsPatch s v first
  pub side : Bool
  pub child : ℕ
  pub below : HasEntry v.work.found (child_place s.elements block side false, child)

-- at the place of each claim a name was found that leads another patch than that of the name n
abbrev pub IsUnclaimed : Setup → Sight → ℕ → Type 0
IsUnclaimed s v n = (c : Claim) → HasEntry v.claims c → (first : ℕ) × HasEntry v.work.found (c.place, first) × (first ≡ n → ⊥) × (s.mate first ≡ n → ⊥)

-- the patch is of the table, and known as bisected by its name, whose first member was found at its place
pub record IsPublished (l : Layout) (v : Sight) (p : Patch) : Type 0 where
  pub room : p.block < l.pool
  pub within : AreWithin l p.spot
  pub found : HasEntry v.work.found (place_number l p.spot.first, name_code p.name.first)
  pub known : (k : ℕ) → HasEntry (codes p.name.first p.name.second) k → HasEntry v.work.known k

-- the claims are exactly those of the patches of the list, in the order in which they were published
pub record AreListed (k : Site) (v : Sight) (cs : List Claim) (ps : List Patch) : Type 0 where
  pub claims : cs ≡ claims_before k.layout ps []
  pub each : All (IsPublished k.layout v) ps
  pub own : (c : Claim) → HasEntry cs c → IsOwn (setup_at k) v c
  pub apart : AreApart cs

-- the claims are those of the list; and one more before them, where a draw found no block for it
abbrev pub AreKept : Site → Sight → List Patch → Option Spot → Type 0
AreKept k v ps None = AreListed k v v.claims ps
AreKept k v ps (Some spot) = (cs : List Claim) × (v.claims ≡ claim (place_number k.layout spot.first) (mate_number k.layout spot.second) Failed ∷ cs)
    × IsFree cs (place_number k.layout spot.first) × AreWithin k.layout spot × AreListed k v cs ps

-- the claim that a refusal leaves without a block
abbrev pub failed_by : ClaimRefusal → Option Spot
failed_by (Deferred owner n) = None
failed_by (Full drawn free spot) = Some spot
