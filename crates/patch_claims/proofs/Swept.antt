-- What a list of published patches is to the owner's loops: each patch has its claim, each claim its patch, and no two are of one place.
use Rattle.std.proofs.Common.{◌≡◌, ℕ, zero, suc, ◌<◌, List, [], ◌∷◌, length, slice_index_or, ◌⊎◌, refl, sym, ap, ◌∙◌, subst, arith, inl, inr, ⊎_elim}
use Rattle.table_words.specs.declared.layout.Layout.{Layout}
use Rattle.table_words.specs.Claims.{Claim}
use Rattle.table_words.specs.Entries.{HasEntry}
use Rattle.table_words.specs.Places.{place_number}
use Rattle.patch_claims.specs.Claims.{AreApart}
use Rattle.patch_claims.specs.Listed.{claim_of, claims_before}
use Rattle.patch_claims.specs.declared.patch.Patch.{Patch}

module _ (l : Layout) where
  stay : (ps : List Patch) (cs : List Claim) (c : Claim) → HasEntry cs c → HasEntry (claims_before l ps cs) c
  stay [] cs c h = h
  stay (p ∷ ps) cs c h = stay ps (claim_of l p ∷ cs) c (inr h)

  pub each_claimed : (ps : List Patch) (cs : List Claim) (j : ℕ) (d : Patch) → j < length ps → HasEntry (claims_before l ps cs) (claim_of l (slice_index_or ps j d))
  each_claimed [] cs j d low = absurd (omega arith)
  each_claimed (p ∷ ps) cs zero d low = stay ps (claim_of l p ∷ cs) (claim_of l p) (inl refl)
  each_claimed (p ∷ ps) cs (suc j) d low = each_claimed ps (claim_of l p ∷ cs) j d (omega arith)

  pub claims_of_patches : (ps : List Patch) (cs : List Claim) (c : Claim) → HasEntry (claims_before l ps cs) c → HasEntry cs c ⊎ ((j : ℕ) × (j < length ps) × ((d : Patch) → c ≡ claim_of l (slice_index_or ps j d)))
  claims_of_patches [] cs c h = inl h
  claims_of_patches (p ∷ ps) cs c h = ⊎_elim
      (λ t. ⊎_elim (λ e. inr (0, omega arith, λ d. e)) (λ u. inl u) t)
      (λ t. let low = t.1 in inr (suc t.0, omega arith, t.2)) (claims_of_patches ps (claim_of l p ∷ cs) c h)

  apart_before : (ps : List Patch) (cs : List Claim) → AreApart (claims_before l ps cs) → AreApart cs
  apart_before [] cs h = h
  apart_before (p ∷ ps) cs h = (apart_before ps (claim_of l p ∷ cs) h).2

  later : (ps : List Patch) (cs : List Claim) (c : Claim) (j : ℕ) (d : Patch) → AreApart (claims_before l ps cs) → HasEntry cs c → j < length ps → c.place ≡ place_number l (slice_index_or ps j d).spot.first → ⊥
  later [] cs c j d h e low same = absurd (omega arith)
  later (p ∷ ps) cs c zero d h e low same = (apart_before ps (claim_of l p ∷ cs) h).0 c e same
  later (p ∷ ps) cs c (suc j) d h e low same = later ps (claim_of l p ∷ cs) c j d h (inr e) (omega arith) same

  pub places_apart : (ps : List Patch) (cs : List Claim) (i j : ℕ) (d : Patch) → AreApart (claims_before l ps cs) → i < length ps → j < length ps
      → place_number l (slice_index_or ps i d).spot.first ≡ place_number l (slice_index_or ps j d).spot.first → i ≡ j
  places_apart [] cs i j d h a b same = absurd (omega arith)
  places_apart (p ∷ ps) cs zero zero d h a b same = refl
  places_apart (p ∷ ps) cs zero (suc j) d h a b same = absurd (later ps (claim_of l p ∷ cs) (claim_of l p) j d h (inl refl) (omega arith) same)
  places_apart (p ∷ ps) cs (suc i) zero d h a b same = absurd (later ps (claim_of l p ∷ cs) (claim_of l p) i d h (inl refl) (omega arith) (sym same))
  places_apart (p ∷ ps) cs (suc i) (suc j) d h a b same = ap suc (places_apart ps (claim_of l p ∷ cs) i j d h (omega arith) (omega arith) same)
