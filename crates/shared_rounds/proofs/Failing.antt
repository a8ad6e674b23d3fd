-- A claim that got no block.
use Rattle.std.proofs.Common.{◌≡◌, ℕ, zero, suc, ◌<◌, true, false, List, [], ◌∷◌, Option, None, Some, length, map, slice_index_or, refl, inl, sym, true≢false, arith}
use Rattle.std.specs.Option.{is_some}
use Rattle.table_words.specs.Claims.{Failed, claim}
use Rattle.table_words.specs.Entries.{HasEntry}
use Rattle.table_words.specs.Places.{place_number}
use Rattle.table_words.specs.declared.layout.Layout.{Layout}
use Rattle.table_words.proofs.Entries.{entry_left, entry_right}
use Rattle.mesh_table.specs.Told.{mate_number}
use Rattle.patch_claims.specs.Listed.{claims_before}
use Rattle.patch_claims.specs.declared.patch.Patch.{Patch as Published}
use Rattle.patch_claims.specs.declared.patch.Spot.{Spot}
use Rattle.table_passes.specs.Kept.{all_claims, claims_in, claims_with}
use Rattle.table_passes.specs.declared.work.Joined.{Joined}

pub not_some : (f : Option Spot) → is_some f ≡ false → f ≡ None
not_some None e = refl
not_some (Some spot) e = absurd (true≢false e)

module _ (l : Layout) where
  with_failed : (f : Option Spot) (ps : List Published) → is_some f ≡ true → (x m : ℕ) × HasEntry (claims_with l f (claims_before l ps [])) (claim x m Failed)
  with_failed None ps e = absurd (true≢false (sym e))
  with_failed (Some spot) ps e = (place_number l spot.first, mate_number l spot.second, inl refl)

  -- the claims of the passes have one without a block, if one of the passes has
  pub some_failed : (ds : List Joined) (k : ℕ) (d : Joined) → k < length ds → is_some (slice_index_or ds k d).lists.failed ≡ true
      → (x m : ℕ) × HasEntry (all_claims l (map (λ (d : Joined). d.lists) ds)) (claim x m Failed)
  some_failed [] k d a e = absurd (omega arith)
  some_failed (b ∷ ds) zero d a e = let t = with_failed b.lists.failed b.lists.published.items e in
      (t.0, t.1, entry_left (claims_in l b.lists) (all_claims l (map (λ (d : Joined). d.lists) ds)) (claim t.0 t.1 Failed) t.2)
  some_failed (b ∷ ds) (suc k) d a e = let t = some_failed ds k d (omega arith) e in
      (t.0, t.1, entry_right (claims_in l b.lists) (all_claims l (map (λ (d : Joined). d.lists) ds)) (claim t.0 t.1 Failed) t.2)
