-- Blocks with their places, and the sweep of claims.
use Rattle.std.specs.Prelude.{◌≡◌, ℕ, ◌+◌, ◌<◌, Bool, List, [], ◌∷◌, ◌++◌, length, slice_index_or, Option, None, Some, IfSome, ◌⊎◌, false}
use Rattle.table_words.specs.declared.layout.Layout.{Layout}
use Rattle.table_words.specs.declared.layout.ElemAt.TheVariants.{Macro}
use Rattle.table_words.specs.Claims.{Progress, Living, claim}
use Rattle.table_words.specs.Entries.{HasEntry}
use Rattle.table_words.specs.Layout.{IsElemAt}
use Rattle.table_words.specs.Places.{place_number}
use Rattle.mesh_table.specs.Sights.{Sight}
use Rattle.table_words.specs.Views.{Owner, Closing, Resting, Plan}
use Rattle.table_state.specs.Ghosts.{Placed, chained}
use Rattle.table_words.specs.Setup.{Setup}
use Rattle.table_state.specs.Lists.{IsListed}
use Rattle.mesh_table.specs.Passes.{IsStampedIn}
use Rattle.mesh_table.specs.Told.{mate_number}
use Rattle.table_rounds.specs.declared.patch.Patch.{Patch}

abbrev pub no_patch : Patch
no_patch = record { block = 0; first = Macro 0; second = None }

-- the patch of this number
abbrev pub nth : List Patch → ℕ → Patch
nth ps k = slice_index_or ps k no_patch

-- the block and the numbers of its places
abbrev pub spot : Layout → Patch → ℕ × ℕ × ℕ
spot l p = (p.block, place_number l p.first, mate_number l p.second)

abbrev pub IsPatch : Layout → Patch → Type 0
IsPatch l p = (p.block < l.pool) × IsElemAt l p.first × IfSome p.second (IsElemAt l)

abbrev pub AllFit : Layout → List Patch → Type 0
AllFit l ps = (k : ℕ) → k < length ps → IsPatch l (nth ps k)

-- the place of the patch's first member
abbrev pub first_of : Layout → List Patch → ℕ → ℕ
first_of l ps k = place_number l (nth ps k).first

-- the claims of the view are those of the patches, each with its living block
pub record IsSweepable (l : Layout) (v : Sight) (ps : List Patch) : Type 0 where
  pub held : (k : ℕ) → k < length ps → HasEntry v.claims (claim (first_of l ps k) (mate_number l (nth ps k).second) (Living (nth ps k).block))
  pub apart : (j k : ℕ) → j < length ps → k < length ps → first_of l ps j ≡ first_of l ps k → j ≡ k
  pub all : (x m : ℕ) (p : Progress) → HasEntry v.claims (claim x m p) → (k : ℕ) × (k < length ps) × (x ≡ first_of l ps k)

-- a block and its places are those of one of the first n patches
abbrev pub IsSpotOf : Layout → List Patch → ℕ → ℕ × ℕ × ℕ → Type 0
IsSpotOf l ps n a = (k : ℕ) × (k < n) × (a ≡ spot l (nth ps k))

-- the claims of the first n patches have ended, and their blocks are noted with their places; nothing else changed
pub record SweptTo (l : Layout) (u v : Sight) (ps : List Patch) (n : ℕ) : Type 0 where
  pub same : v ≡ record u { claims = v.claims; ruling = record u.ruling { placed = v.ruling.placed } }
  pub left : (x m : ℕ) (p : Progress) → HasEntry v.claims (claim x m p) → HasEntry u.claims (claim x m p) × ((k : ℕ) → k < n → x ≡ first_of l ps k → ⊥)
  pub still : (x m : ℕ) (p : Progress) → HasEntry u.claims (claim x m p) → ((k : ℕ) → k < n → x ≡ first_of l ps k → ⊥) → HasEntry v.claims (claim x m p)
  pub more : (a : ℕ × ℕ × ℕ) → HasEntry u.ruling.placed a → HasEntry v.ruling.placed a
  pub only : (a : ℕ × ℕ × ℕ) → HasEntry v.ruling.placed a → HasEntry u.ruling.placed a ⊎ IsSpotOf l ps n a
  pub noted : (k : ℕ) → k < n → HasEntry v.ruling.placed (spot l (nth ps k))

-- no claim is left, and each patch's block is noted with its places; nothing else changed
pub record Swept (l : Layout) (u v : Sight) (ps : List Patch) : Type 0 where
  pub same : v ≡ record u { claims = []; ruling = record u.ruling { placed = v.ruling.placed } }
  pub more : (a : ℕ × ℕ × ℕ) → HasEntry u.ruling.placed a → HasEntry v.ruling.placed a
  pub only : (a : ℕ × ℕ × ℕ) → HasEntry v.ruling.placed a → HasEntry u.ruling.placed a ⊎ IsSpotOf l ps (length ps) a
  pub noted : (k : ℕ) → k < length ps → HasEntry v.ruling.placed (spot l (nth ps k))

-- the LINK words of the places of each of the first n patches are stamped, or name other blocks; only what the owner owns changed
pub record StampedTo (l : Layout) (u v : Sight) (ps : List Patch) (n : ℕ) : Type 0 where
  pub same : v ≡ record u { owned = v.owned }
  pub stamped : (k : ℕ) → k < n → IsStampedIn v (first_of l ps k) (nth ps k).block × ((y : ℕ) → mate_number l (nth ps k).second ≡ y + 1
      → IsStampedIn v y (nth ps k).block)

-- the block's member is in the chain of the place, by what the owner noted
abbrev pub StandsAt : Sight → ℕ → ℕ → Type 0
StandsAt v b x = (y m : ℕ) × (t : Bool) × HasEntry v.ruling.placed (b, y, m) × (chained (Placed y m) t ≡ x + 1)

-- what is stamped stays so
abbrev pub StampsStay : Sight → Sight → Type 0
StampsStay u v = (y c : ℕ) → IsStampedIn u y c → IsStampedIn v y c

-- the owner may stamp: the round is closed, and no claim is left
pub record IsSwept (v : Sight) (round : ℕ) : Type 0 where
  pub rules : v.kind ≡ Owner
  pub closed : v.ruling.phase ≡ Closing
  pub none : v.claims ≡ []
  pub home : v.ruling.workers ≡ 0
  pub now : v.ruling.finished + 1 ≡ round

-- each patch's block was retired in the round, and stands at the patch's places
abbrev pub AreRetired : Layout → Sight → List Patch → Type 0
AreRetired l v ps = (k : ℕ) → k < length ps → HasEntry v.ruling.retired (nth ps k).block × HasEntry v.ruling.placed (spot l (nth ps k))

-- the forest is the target less the patches of the retire list
abbrev pub IsLeft : Setup → Plan → List ℕ → Type 0
IsLeft s p forest = ((i : ℕ) → HasEntry forest i → HasEntry p.target i × (IsListed s p.retire i → ⊥)) × ((i : ℕ) → HasEntry p.target i
    → (IsListed s p.retire i → ⊥) → HasEntry forest i)

-- the list has the blocks that passes retired in the round, each at the places that the owner noted of it
pub record WereRetired (l : Layout) (v : Sight) (ps : List Patch) : Type 0 where
  pub right : (k : ℕ) → k < length ps → HasEntry (v.work.retired ++ v.ruling.retired) (nth ps k).block × HasEntry v.ruling.placed (spot l (nth ps k))
  pub all : (b : ℕ) → HasEntry (v.work.retired ++ v.ruling.retired) b → (k : ℕ) × (k < length ps) × (b ≡ (nth ps k).block)

-- The round is finished: the history has one forest more, no claim is left, the blocks of the claims, and no
-- others, are noted with their places, those that were retired are kept, and the free blocks are as they were
pub record Finished (l : Layout) (u v : Sight) (ps : List Patch) (forest : List ℕ) (taken : ℕ) : Type 0 where
  pub kind : v.kind ≡ u.kind
  pub claims : v.claims ≡ []
  pub ruling : v.ruling ≡ record u.ruling {
    phase = Resting;
    finished = u.ruling.finished + 1;
    early = u.ruling.readers;
    history = u.ruling.history ++ forest ∷ [];
    left = (u.ruling.finished, taken) ∷ u.ruling.left;
    retired = [];
    kept = (u.work.retired ++ u.ruling.retired) ++ u.ruling.kept;
    placed = v.ruling.placed;
    seen = 0;
    quiet = false;
  }
  pub more : (a : ℕ × ℕ × ℕ) → HasEntry u.ruling.placed a → HasEntry v.ruling.placed a
  pub only : (a : ℕ × ℕ × ℕ) → HasEntry v.ruling.placed a → HasEntry u.ruling.placed a ⊎ IsSpotOf l ps (length ps) a
  pub noted : (k : ℕ) → k < length ps → HasEntry v.ruling.placed (spot l (nth ps k))
