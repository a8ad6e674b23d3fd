-- Claims of a refused round, and how they are rolled back.
use Rattle.std.specs.Prelude.{◌≡◌, ℕ, ◌+◌, ◌<◌, Bool, List, [], ◌∷◌, length, slice_index_or, Option, None, Some, IfSome, ◌⊎◌, false}
use Rattle.table_words.specs.declared.layout.Layout.{Layout}
use Rattle.table_words.specs.declared.layout.ElemAt.TheVariants.{Macro}
use Rattle.table_words.specs.Claims.{Progress, Failed, Living, claim, ended}
use Rattle.table_words.specs.Entries.{HasEntry, Noted}
use Rattle.table_words.specs.Layout.{IsElemAt}
use Rattle.table_words.specs.Places.{place_number}
use Rattle.table_words.specs.Views.{Owner, RollingBack, Resting}
use Rattle.table_state.specs.Fresh.{idle}
use Rattle.mesh_table.specs.Sights.{Sight}
use Rattle.mesh_table.specs.Told.{mate_number}
use Rattle.table_rounds.specs.declared.patch.Held.{Held}

abbrev pub no_held : Held
no_held = record { first = Macro 0; second = None; block = None }

abbrev pub held_at : List Held → ℕ → Held
held_at ps k = slice_index_or ps k no_held

-- a claim has its living block, or its draw found none
abbrev pub progress_of : Option ℕ → Progress
progress_of None = Failed
progress_of (Some b) = Living b

abbrev pub IsHeld : Layout → Held → Type 0
IsHeld l p = IsElemAt l p.first × IfSome p.second (IsElemAt l) × IfSome p.block (λ b. b < l.pool)

abbrev pub HeldFit : Layout → List Held → Type 0
HeldFit l ps = (k : ℕ) → k < length ps → IsHeld l (held_at ps k)

abbrev pub place_of : Layout → List Held → ℕ → ℕ
place_of l ps k = place_number l (held_at ps k).first

-- the owner takes the round back
pub record IsTaking (v : Sight) (round : ℕ) : Type 0 where
  pub rules : v.kind ≡ Owner
  pub back : v.ruling.phase ≡ RollingBack
  pub home : v.ruling.workers ≡ 0
  pub now : v.ruling.finished + 1 ≡ round

-- the block b of the claim of x is rolled back: it is noted as such, with its places
pub record RolledBackOne (u v : Sight) (x m b round : ℕ) : Type 0 where
  pub same : v ≡ record u {
    claims = v.claims;
    owned = v.owned;
    ruling = record u.ruling { rolled_back = b ∷ u.ruling.rolled_back; placed = (b, x, m) ∷ u.ruling.placed; seen = 0; quiet = false };
  }
  pub claims : v.claims ≡ ended u.claims x
  pub died : Noted v.owned.died b round

-- a block and its places are those of the claim
abbrev pub IsSpotIn : Layout → Held → ℕ × ℕ × ℕ → Type 0
IsSpotIn l p a = (b : ℕ) × (p.block ≡ Some b) × (a ≡ (b, place_number l p.first, mate_number l p.second))

-- the claim of one of the list ends
pub record EndedOne (l : Layout) (u v : Sight) (p : Held) : Type 0 where
  pub same : v ≡ record u {
    claims = ended u.claims (place_number l p.first);
    owned = v.owned;
    ruling = record u.ruling { rolled_back = v.ruling.rolled_back; placed = v.ruling.placed; seen = v.ruling.seen; quiet = v.ruling.quiet };
  }
  pub more : (b : ℕ) → HasEntry u.ruling.rolled_back b → HasEntry v.ruling.rolled_back b
  pub only : (b : ℕ) → HasEntry v.ruling.rolled_back b → HasEntry u.ruling.rolled_back b ⊎ (p.block ≡ Some b)
  pub placed : (a : ℕ × ℕ × ℕ) → HasEntry u.ruling.placed a → HasEntry v.ruling.placed a
  pub spots : (a : ℕ × ℕ × ℕ) → HasEntry v.ruling.placed a → HasEntry u.ruling.placed a ⊎ IsSpotIn l p a
  pub noted : (b : ℕ) → p.block ≡ Some b → HasEntry v.ruling.rolled_back b × HasEntry v.ruling.placed (b, place_number l p.first, mate_number l p.second)

-- the claims of the view are those of the list
pub record AreHeld (l : Layout) (v : Sight) (ps : List Held) : Type 0 where
  pub held : (k : ℕ) → k < length ps → HasEntry v.claims (claim (place_of l ps k) (mate_number l (held_at ps k).second) (progress_of (held_at ps k).block))
  pub apart : (j k : ℕ) → j < length ps → k < length ps → place_of l ps j ≡ place_of l ps k → j ≡ k
  pub all : (x m : ℕ) (p : Progress) → HasEntry v.claims (claim x m p) → (k : ℕ) × (k < length ps) × (x ≡ place_of l ps k)

-- the first n claims were rolled back
pub record TakenTo (l : Layout) (u v : Sight) (ps : List Held) (n : ℕ) : Type 0 where
  pub same : v ≡ record u {
    claims = v.claims;
    owned = v.owned;
    ruling = record u.ruling { rolled_back = v.ruling.rolled_back; placed = v.ruling.placed; seen = v.ruling.seen; quiet = v.ruling.quiet };
  }
  pub left : (x m : ℕ) (p : Progress) → HasEntry v.claims (claim x m p) → HasEntry u.claims (claim x m p) × ((k : ℕ) → k < n → x ≡ place_of l ps k → ⊥)
  pub still : (x m : ℕ) (p : Progress) → HasEntry u.claims (claim x m p) → ((k : ℕ) → k < n → x ≡ place_of l ps k → ⊥) → HasEntry v.claims (claim x m p)
  pub more : (b : ℕ) → HasEntry u.ruling.rolled_back b → HasEntry v.ruling.rolled_back b
  pub only : (b : ℕ) → HasEntry v.ruling.rolled_back b → HasEntry u.ruling.rolled_back b ⊎ ((k : ℕ) × (k < n) × ((held_at ps k).block ≡ Some b))
  pub placed : (a : ℕ × ℕ × ℕ) → HasEntry u.ruling.placed a → HasEntry v.ruling.placed a
  pub spots : (a : ℕ × ℕ × ℕ) → HasEntry v.ruling.placed a → HasEntry u.ruling.placed a ⊎ ((k : ℕ) × (k < n) × IsSpotIn l (held_at ps k) a)
  pub noted : (k b : ℕ) → k < n → (held_at ps k).block ≡ Some b → HasEntry v.ruling.rolled_back b
      × HasEntry v.ruling.placed (b, place_of l ps k, mate_number l (held_at ps k).second)

-- The round is rolled back: the history and the free blocks are as before, no claim is left, and the blocks of
-- the claims, and no others, are noted as rolled back, with their places
pub record RolledBackAll (l : Layout) (u v : Sight) (ps : List Held) : Type 0 where
  pub kind : v.kind ≡ u.kind
  pub claims : v.claims ≡ []
  pub ruling : v.ruling ≡ record u.ruling {
    phase = Resting;
    rolled_back = v.ruling.rolled_back;
    placed = v.ruling.placed;
    seen = v.ruling.seen;
    quiet = v.ruling.quiet;
  }
  pub more : (b : ℕ) → HasEntry u.ruling.rolled_back b → HasEntry v.ruling.rolled_back b
  pub only : (b : ℕ) → HasEntry v.ruling.rolled_back b → HasEntry u.ruling.rolled_back b ⊎ ((k : ℕ) × (k < length ps) × ((held_at ps k).block ≡ Some b))
  pub placed : (a : ℕ × ℕ × ℕ) → HasEntry u.ruling.placed a → HasEntry v.ruling.placed a
  pub spots : (a : ℕ × ℕ × ℕ) → HasEntry v.ruling.placed a → HasEntry u.ruling.placed a ⊎ ((k : ℕ) × (k < length ps) × IsSpotIn l (held_at ps k) a)
  pub noted : (k b : ℕ) → k < length ps → (held_at ps k).block ≡ Some b → HasEntry v.ruling.rolled_back b
      × HasEntry v.ruling.placed (b, place_of l ps k, mate_number l (held_at ps k).second)
