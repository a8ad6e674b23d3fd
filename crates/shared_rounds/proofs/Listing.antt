-- The claims of passes as lists of blocks, and of what is held.
use Rattle.std.proofs.Common.{◌≡◌, ℕ, zero, suc, ◌<◌, List, [], ◌∷◌, ◌++◌, All, IfSome, Option, None, Some, length, map, slice_index_or, refl, sym, ap, ◌∙◌, subst, inl, inr, ⊎_elim, arith}
use Rattle.std.proofs.lemmas.List.{map-append}
use Rattle.std.proofs.lemmas.List.Elements.{All-head, All-tail}
use Rattle.table_words.specs.Claims.{Claim, claim}
use Rattle.table_words.specs.Entries.{HasEntry}
use Rattle.table_words.specs.declared.layout.Layout.{Layout}
use Rattle.table_words.proofs.Entries.{entry_of_both}
use Rattle.table_state.specs.Inside.{ListedOnce}
use Rattle.mesh_table.specs.Crews.{ClaimsLive}
use Rattle.mesh_table.specs.Sights.{Sight}
use Rattle.patch_claims.specs.Listed.{AreWithin, claims_before}
use Rattle.patch_claims.specs.declared.patch.Patch.{Patch as Published}
use Rattle.patch_claims.specs.declared.patch.Spot.{Spot}
use Rattle.table_passes.specs.Kept.{all_claims, claims_in, claims_with}
use Rattle.table_passes.specs.declared.lists.Lists.{Lists}
use Rattle.table_rounds.specs.Patches.{AllFit, IsPatch, IsSweepable, no_patch, nth}
use Rattle.table_rounds.specs.Refusals.{AreHeld, HeldFit, IsHeld, held_at, no_held}
use Rattle.table_rounds.specs.declared.patch.Held.{Held}
use Rattle.table_rounds.specs.declared.patch.Patch.{Patch}
use Rattle.shared_rounds.specs.Gathered.{all_blocks, all_held, blocks_before, held_before, held_claim, held_in, held_with, living_claim, block_of, held_of}
use Rattle.shared_rounds.specs.Reached.{AreInside}

module _ (l : Layout) where
  blocks_claims : (ps : List Published) (bs : List Patch) → claims_before l ps (map (living_claim l) bs) ≡ map (living_claim l) (blocks_before ps bs)
  blocks_claims [] bs = refl
  blocks_claims (p ∷ ps) bs = blocks_claims ps (block_of p ∷ bs)

  held_claims : (ps : List Published) (hs : List Held) → claims_before l ps (map (held_claim l) hs) ≡ map (held_claim l) (held_before ps hs)
  held_claims [] hs = refl
  held_claims (p ∷ ps) hs = held_claims ps (held_of p ∷ hs)

  with_claims : (f : Option Spot) (hs : List Held) → claims_with l f (map (held_claim l) hs) ≡ map (held_claim l) (held_with f hs)
  with_claims None hs = refl
  with_claims (Some spot) hs = refl

  -- the claims of the passes are those that are held
  pub claims_held : (ls : List Lists) → all_claims l ls ≡ map (held_claim l) (all_held ls)
  claims_held [] = refl
  claims_held (a ∷ rest) =
      (λ i. claims_with l a.failed (held_claims a.published.items [] i) ++ all_claims l rest)
      ∙ (λ i. with_claims a.failed (held_before a.published.items []) i ++ claims_held rest i)
      ∙ sym (map-append (held_claim l) (held_in a) (all_held rest))

  in_blocks : (a : Lists) → a.failed ≡ None → claims_in l a ≡ map (living_claim l) (blocks_before a.published.items [])
  in_blocks a none = ap (λ (f : Option Spot). claims_with l f (claims_before l a.published.items [])) none ∙ blocks_claims a.published.items []

  -- and those of the blocks, where each claim has its block
  pub claims_blocks : (ls : List Lists) → All (λ a. a.failed ≡ None) ls → all_claims l ls ≡ map (living_claim l) (all_blocks ls)
  claims_blocks [] none = refl
  claims_blocks (a ∷ rest) none =
      (λ i. in_blocks a (All-head (λ (a : Lists). a.failed ≡ None) a rest none) i ++ claims_blocks rest (All-tail (λ (a : Lists). a.failed ≡ None) a rest none) i)
      ∙ sym (map-append (living_claim l) (blocks_before a.published.items []) (all_blocks rest))

  pub claims_apart : (ls ms : List Lists) → all_claims l (ls ++ ms) ≡ all_claims l ls ++ all_claims l ms
  claims_apart [] ms = refl
  claims_apart (a ∷ ls) ms = ap (λ (cs : List Claim). claims_in l a ++ cs) (claims_apart ls ms) ∙ sym (append_again (claims_in l a) (all_claims l ls) (all_claims l ms))
    where
      append_again : (xs ys zs : List Claim) → (xs ++ ys) ++ zs ≡ xs ++ (ys ++ zs)
      append_again [] ys zs = refl
      append_again (x ∷ xs) ys zs = ap (λ (r : List Claim). x ∷ r) (append_again xs ys zs)

  -- Blocks and places of the table
  abbrev pub Fits : List Patch → Type 0
  Fits bs = (b : Patch) → HasEntry bs b → IsPatch l b

  abbrev pub HeldFits : List Held → Type 0
  HeldFits hs = (h : Held) → HasEntry hs h → IsHeld l h

  before_fit : (ps : List Published) (bs : List Patch) → ((p : Published) → HasEntry ps p → IsPatch l (block_of p)) → Fits bs → Fits (blocks_before ps bs)
  before_fit [] bs each fit = fit
  before_fit (p ∷ ps) bs each fit = before_fit ps (block_of p ∷ bs) (λ q h. each q (inr h)) (λ b. ⊎_elim (λ e. subst (IsPatch l) (sym e) (each p (inl refl))) (λ h. fit b h))

  held_fit : (ps : List Published) (hs : List Held) → ((p : Published) → HasEntry ps p → IsHeld l (held_of p)) → HeldFits hs → HeldFits (held_before ps hs)
  held_fit [] hs each fit = fit
  held_fit (p ∷ ps) hs each fit = held_fit ps (held_of p ∷ hs) (λ q h. each q (inr h)) (λ b. ⊎_elim (λ e. subst (IsHeld l) (sym e) (each p (inl refl))) (λ h. fit b h))

  pub blocks_fit : (ls : List Lists) → All (AreInside l) ls → Fits (all_blocks ls)
  blocks_fit [] inside b h = absurd h
  blocks_fit (a ∷ rest) inside b h = let here = All-head (AreInside l) a rest inside in
      ⊎_elim (λ k. before_fit a.published.items [] (λ p m. let q = here.published p m in (q.0, q.1.0, q.1.1)) (λ c e. absurd e) b k)
      (λ k. blocks_fit rest (All-tail (AreInside l) a rest inside) b k) (entry_of_both (blocks_before a.published.items []) (all_blocks rest) b h)

  spot_fit : (f : Option Spot) (hs : List Held) → IfSome f (AreWithin l) → HeldFits hs → HeldFits (held_with f hs)
  spot_fit None hs w fit = fit
  spot_fit (Some spot) hs w fit = λ h. ⊎_elim (λ e. subst (IsHeld l) (sym e) (w.0, w.1, tt)) (λ k. fit h k)

  all_held_fit : (ls : List Lists) → All (AreInside l) ls → HeldFits (all_held ls)
  all_held_fit [] inside b h = absurd h
  all_held_fit (a ∷ rest) inside b h = let here = All-head (AreInside l) a rest inside in
      ⊎_elim (λ k. spot_fit a.failed (held_before a.published.items []) here.failed (held_fit a.published.items [] (λ p m. let q = here.published p m in (q.1.0, q.1.1, q.0)) (λ c e. absurd e)) b k)
      (λ k. all_held_fit rest (All-tail (AreInside l) a rest inside) b k) (entry_of_both (held_in a) (all_held rest) b h)

-- Entries of a list by their numbers
module _ {A : Type 0} (f : A → Claim) (d : A) where
  pub entry_at : (xs : List A) (k : ℕ) → k < length xs → HasEntry xs (slice_index_or xs k d)
  entry_at [] k m = absurd (omega arith)
  entry_at (x ∷ xs) zero m = inl refl
  entry_at (x ∷ xs) (suc k) m = inr (entry_at xs k (omega arith))

  pub mapped : (xs : List A) (a : A) → HasEntry xs a → HasEntry (map f xs) (f a)
  mapped [] a h = absurd h
  mapped (x ∷ xs) a (inl e) = inl (ap f e)
  mapped (x ∷ xs) a (inr h) = inr (mapped xs a h)

  pub found_at : (xs : List A) (c : Claim) → HasEntry (map f xs) c → (k : ℕ) × (k < length xs) × (c ≡ f (slice_index_or xs k d))
  found_at [] c h = absurd h
  found_at (x ∷ xs) c (inl e) = (0, omega arith, e)
  found_at (x ∷ xs) c (inr h) = let t = found_at xs c h in let m = t.1 in (suc t.0, omega arith, t.2)

  not_twice : (x : A) (xs : List A) → ListedOnce (f x ∷ map f xs) → (k : ℕ) → k < length xs → (f (slice_index_or xs k d)).place ≡ (f x).place → ⊥
  not_twice x xs once k m e = let c = f (slice_index_or xs k d) in
      once.0 c.mate c.progress (subst (λ (n : ℕ). HasEntry (map f xs) (claim n c.mate c.progress)) e (mapped xs (slice_index_or xs k d) (entry_at xs k m)))

  pub places_apart : (xs : List A) → ListedOnce (map f xs) → (j k : ℕ) → j < length xs → k < length xs → (f (slice_index_or xs j d)).place ≡ (f (slice_index_or xs k d)).place → j ≡ k
  places_apart [] once j k a b e = absurd (omega arith)
  places_apart (x ∷ xs) once zero zero a b e = refl
  places_apart (x ∷ xs) once zero (suc k) a b e = absurd (not_twice x xs once k (omega arith) (sym e))
  places_apart (x ∷ xs) once (suc j) zero a b e = absurd (not_twice x xs once j (omega arith) e)
  places_apart (x ∷ xs) once (suc j) (suc k) a b e = let q = places_apart xs once.1 j k (omega arith) (omega arith) e in omega arith

module _ (l : Layout) (v : Sight) (once : ListedOnce v.claims) where
  pub sweepable : (bs : List Patch) → v.claims ≡ map (living_claim l) bs → IsSweepable l v bs
  sweepable bs e = record {
    held = λ k m. subst (λ (cs : List Claim). HasEntry cs (living_claim l (nth bs k))) (sym e) (mapped (living_claim l) no_patch bs (nth bs k) (entry_at (living_claim l) no_patch bs k m));
    apart = λ j k a b q. places_apart (living_claim l) no_patch bs (subst ListedOnce e once) j k a b q;
    all = λ x m p h. let t = found_at (living_claim l) no_patch bs (claim x m p) (subst (λ (cs : List Claim). HasEntry cs (claim x m p)) e h) in (t.0, t.1, ap (λ (c : Claim). c.place) t.2);
  }

  pub are_held : (hs : List Held) → v.claims ≡ map (held_claim l) hs → AreHeld l v hs
  are_held hs e = record {
    held = λ k m. subst (λ (cs : List Claim). HasEntry cs (held_claim l (held_at hs k))) (sym e) (mapped (held_claim l) no_held hs (held_at hs k) (entry_at (held_claim l) no_held hs k m));
    apart = λ j k a b q. places_apart (held_claim l) no_held hs (subst ListedOnce e once) j k a b q;
    all = λ x m p h. let t = found_at (held_claim l) no_held hs (claim x m p) (subst (λ (cs : List Claim). HasEntry cs (claim x m p)) e h) in (t.0, t.1, ap (λ (c : Claim). c.place) t.2);
  }

pub all_fit : (l : Layout) (ls : List Lists) → All (AreInside l) ls → AllFit l (all_blocks ls)
all_fit l ls inside k m = blocks_fit l ls inside (nth (all_blocks ls) k) (entry_at (living_claim l) no_patch (all_blocks ls) k m)

pub held_all_fit : (l : Layout) (ls : List Lists) → All (AreInside l) ls → HeldFit l (all_held ls)
held_all_fit l ls inside k m = all_held_fit l ls inside (held_at (all_held ls) k) (entry_at (held_claim l) no_held (all_held ls) k m)

-- each of these claims lives
pub blocks_live : (l : Layout) (v : Sight) (bs : List Patch) → v.claims ≡ map (living_claim l) bs → ClaimsLive v
blocks_live l v bs e x m p h = let t = found_at (living_claim l) no_patch bs (claim x m p) (subst (λ (cs : List Claim). HasEntry cs (claim x m p)) e h) in
    ((nth bs t.0).block, ap (λ (c : Claim). c.progress) t.2)
