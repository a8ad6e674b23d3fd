-- There is room for the claims: each living one has a block of its own, and each pass has at most one without.
use Rattle.std.proofs.Common.{◌≡◌, ℕ, suc, ◌+◌, ◌≤◌, List, [], ◌∷◌, ◌++◌, Option, None, Some, length, map, refl, sym, ap, ◌∙◌, subst, inl, inr, arith}
use Rattle.std.proofs.lemmas.List.{length-append}
use Rattle.table_words.specs.Claims.{Claim, Claimed, Drawn, Failed, Half, Living, Progress, Whole, claim}
use Rattle.table_words.specs.Entries.{HasEntry}
use Rattle.table_words.specs.Setup.{Setup}
use Rattle.table_words.specs.declared.layout.Layout.{Layout}
use Rattle.table_state.specs.Inside.{ListedOnce}
use Rattle.table_state.specs.OwnerLaws.{Once}
use Rattle.mesh_table.specs.Sights.{Sight}
use Rattle.patch_claims.specs.declared.patch.Patch.{Patch as Published}
use Rattle.patch_claims.specs.declared.patch.Spot.{Spot}
use Rattle.table_passes.specs.Kept.{all_claims}
use Rattle.table_passes.specs.declared.lists.Lists.{Lists}
use Rattle.table_rounds.specs.Refusals.{progress_of}
use Rattle.table_rounds.specs.declared.patch.Held.{Held}
use Rattle.table_rounds.proofs.Piles.{few}
use Rattle.shared_rounds.specs.Claims.{ClaimsTold}
use Rattle.shared_rounds.specs.Gathered.{all_blocks, all_held, blocks_before, held_before, held_claim, held_in, held_of, held_with}
use Rattle.shared_rounds.proofs.Listing.{claims_held}
use Rattle.shared_rounds.proofs.Piles.{blocks_length, held_length}

abbrev with_block : Progress → List ℕ → List ℕ
with_block Claimed bs = bs
with_block Failed bs = bs
with_block (Drawn b) bs = bs
with_block (Half b) bs = bs
with_block (Whole b) bs = bs
with_block (Living b) bs = b ∷ bs

-- the blocks of the claims that live
abbrev livings : List Claim → List ℕ
livings [] = []
livings (c ∷ cs) = with_block c.progress (livings cs)

livings_of : (cs : List Claim) (b : ℕ) → HasEntry (livings cs) b → (x m : ℕ) × HasEntry cs (claim x m (Living b))
livings_of [] b h = absurd h
livings_of (c ∷ cs) b h = by_progress (λ k. let t = livings_of cs b k in (t.0, t.1, inr t.2)) c.progress refl h
  where
    by_progress : (HasEntry (livings cs) b → (x m : ℕ) × HasEntry (c ∷ cs) (claim x m (Living b))) → (p : Progress) → c.progress ≡ p → HasEntry (with_block p (livings cs)) b
        → (x m : ℕ) × HasEntry (c ∷ cs) (claim x m (Living b))
    by_progress later Claimed e k = later k
    by_progress later Failed e k = later k
    by_progress later (Drawn d) e k = later k
    by_progress later (Half d) e k = later k
    by_progress later (Whole d) e k = later k
    by_progress later (Living d) e (inl q) = (c.place, c.mate, inl (sym (λ i. claim c.place c.mate ((e ∙ ap Living (sym q)) i))))
    by_progress later (Living d) e (inr k) = later k

-- no two claims have one block
abbrev Apart : List Claim → Type 0
Apart cs = (x y m i b : ℕ) → HasEntry cs (claim x m (Living b)) → HasEntry cs (claim y i (Living b)) → x ≡ y

livings_once : (cs : List Claim) → ListedOnce cs → Apart cs → Once (livings cs)
livings_once [] once apart = tt
livings_once (c ∷ cs) once apart = by_progress (livings_once cs once.1 (λ x y m i b h k. apart x y m i b (inr h) (inr k))) c.progress refl
  where
    by_progress : Once (livings cs) → (p : Progress) → c.progress ≡ p → Once (with_block p (livings cs))
    by_progress rest Claimed e = rest
    by_progress rest Failed e = rest
    by_progress rest (Drawn d) e = rest
    by_progress rest (Half d) e = rest
    by_progress rest (Whole d) e = rest
    by_progress rest (Living d) e = (
      (λ h. let t = livings_of cs d h in
          let q = apart t.0 c.place t.1 c.mate d (inr t.2) (inl (sym (λ i. claim c.place c.mate (e i)))) in
          once.0 t.1 (Living d) (subst (λ (x : ℕ). HasEntry cs (claim x t.1 (Living d))) q t.2)),
      rest,
    )

-- so many claims of a list got no block
abbrev lack : Option ℕ → ℕ
lack None = 1
lack (Some b) = 0

abbrev lacking : List Held → ℕ
lacking [] = 0
lacking (h ∷ hs) = lack h.block + lacking hs

lacking_both : (hs ks : List Held) → lacking (hs ++ ks) ≡ lacking hs + lacking ks
lacking_both [] ks = omega arith
lacking_both (h ∷ hs) ks = let e = lacking_both hs ks in omega arith

lacking_before : (ps : List Published) (hs : List Held) → lacking (held_before ps hs) ≡ lacking hs
lacking_before [] hs = refl
lacking_before (p ∷ ps) hs = let e = lacking_before ps (held_of p ∷ hs) in omega arith

with_length : (f : Option Spot) (hs : List Held) → length (held_with f hs) + lacking hs ≡ length hs + lacking (held_with f hs)
with_length None hs = refl
with_length (Some spot) hs = omega arith

few_lacking : (f : Option Spot) (hs : List Held) → lacking (held_with f hs) ≤ 1 + lacking hs
few_lacking None hs = omega arith
few_lacking (Some spot) hs = omega arith

-- at most one of each pass
all_lacking : (ls : List Lists) → lacking (all_held ls) ≤ length ls
all_lacking [] = omega arith
all_lacking (a ∷ rest) =
    let hs = held_before a.published.items [] in
    let b = lacking_both (held_in a) (all_held rest) in
    let c = few_lacking a.failed hs in
    let d = lacking_before a.published.items [] in
    let e = all_lacking rest in
    omega arith

-- what is held is the blocks, and the claims without
held_blocks : (ls : List Lists) → length (all_held ls) ≡ length (all_blocks ls) + lacking (all_held ls)
held_blocks [] = omega arith
held_blocks (a ∷ rest) =
    let hs = held_before a.published.items [] in
    let bs = blocks_before a.published.items [] in
    let b = lacking_both (held_in a) (all_held rest) in
    let c = with_length a.failed hs in
    let d = lacking_before a.published.items [] in
    let e = held_blocks rest in
    let f = held_length a.published.items [] in
    let g = blocks_length a.published.items [] in
    let h = length-append (held_in a) (all_held rest) in
    let i = length-append bs (all_blocks rest) in
    omega arith

one_counted : (b : Option ℕ) (bs : List ℕ) → length (with_block (progress_of b) bs) + lack b ≡ suc (length bs)
one_counted None bs = omega arith
one_counted (Some b) bs = omega arith

counted : (l : Layout) (hs : List Held) → length hs ≡ length (livings (map (held_claim l) hs)) + lacking hs
counted l [] = omega arith
counted l (h ∷ hs) = let a = one_counted h.block (livings (map (held_claim l) hs)) in let b = counted l hs in omega arith

module _ (s : Setup) (l : Layout) (v : Sight) (ls : List Lists) (told : ClaimsTold s v) (e : v.claims ≡ all_claims l ls) where
  few_livings : length (livings (map (held_claim l) (all_held ls))) ≤ s.pool
  few_livings = few s.pool (livings cs) (livings_once cs (subst ListedOnce same told.once) (subst Apart same told.apart))
      (λ b h. let t = livings_of cs b h in told.room t.0 t.1 b (subst (λ (ds : List Claim). HasEntry ds (claim t.0 t.1 (Living b))) (sym same) t.2))
    where
      cs : List Claim
      cs = map (held_claim l) (all_held ls)

      same : v.claims ≡ map (held_claim l) (all_held ls)
      same = e ∙ claims_held l ls

  pub room_held : length (all_held ls) ≤ s.pool + length ls
  room_held = let a = counted l (all_held ls) in let b = few_livings in let c = all_lacking ls in omega arith

  pub room_blocks : length (all_blocks ls) ≤ s.pool
  room_blocks = let a = counted l (all_held ls) in let b = few_livings in let c = held_blocks ls in omega arith
