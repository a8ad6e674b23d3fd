-- Names dealt out among workers.
use Rattle.std.proofs.Common.{◌≡◌, ℕ, zero, suc, ◌+◌, ◌-◌, ◌<◌, List, [], ◌∷◌, ◌++◌, length, map, slice_index_or, All, get_or, drop, refl, sym, ap, ◌∙◌, subst, arith}
use Rattle.std.proofs.lemmas.List.{drop_more, append_assoc, length-map}
use Rattle.mesh_names.specs.Names.{Name}
use Rattle.std.specs.List.{range_with_len}
use Rattle.std.proofs.lemmas.List.Elements.{All-nil, All-cons, All-head, All-tail}
use Rattle.std.proofs.lemmas.List.FromFn.{length-map-range_with_len}
use Rattle.table_passes.specs.Shares.{every}
use Rattle.table_passes.proofs.Crews.{all_shown}

module _ (names : List Name) (step i : ℕ) (d : Name) (l : i < length names) where
  pub share_push : (front all : List Name) → front ++ every step 0 (drop i names) ≡ all
      → (front ++ get_or names i d ∷ []) ++ every step (step - 1) (drop (i + 1) names) ≡ all
  share_push front all e = append_assoc front (get_or names i d ∷ []) (every step (step - 1) (drop (i + 1) names)) ∙ ap (λ (xs : List Name). front ++ every step 0 xs) (sym (drop_more names i d l)) ∙ e

  pub share_skip : (k : ℕ) (front all : List Name) → (k ≡ 0 → ⊥) → front ++ every step k (drop i names) ≡ all → front ++ every step (k - 1) (drop (i + 1) names) ≡ all
  share_skip zero front all some_ e = absurd (some_ refl)
  share_skip (suc k) front all some_ e = let same : suc k - 1 ≡ k = omega arith in ap (λ (j : ℕ). front ++ every step j (drop (i + 1) names)) same ∙ ap (λ (xs : List Name). front ++ every step (suc k) xs) (sym (drop_more names i d l)) ∙ e

every_all : {A : Type 0} (P : A → Type 0) (step k : ℕ) (xs : List A) → All P xs → All P (every step k xs)
every_all P step k [] all = All-nil P
every_all P step zero (x ∷ xs) all = All-cons P x (every step (step - 1) xs) (All-head P x xs all) (every_all P step (step - 1) xs (All-tail P x xs all))
every_all P step (suc k) (x ∷ xs) all = every_all P step k xs (All-tail P x xs all)

-- what holds of all names holds of all names of each share
pub shares_all : {W : Type 0} (names_of : W → List Name) (P : Name → Type 0) (work : List W) (names : List Name) (workers : ℕ)
    → map names_of work ≡ map (λ first. every workers first names) (range_with_len 0 workers) → All P names → All (λ w. All P (names_of w)) work
shares_all names_of P work names workers e all = all_shown names_of (λ (first : ℕ). every workers first names) (λ ns. All P ns) work (range_with_len 0 workers) e (λ k d l. every_all P workers (slice_index_or (range_with_len 0 workers) k d) names all)

pub shares_count : {W : Type 0} (names_of : W → List Name) (work : List W) (names : List Name) (workers : ℕ) → map names_of work ≡ map (λ first. every workers first names) (range_with_len 0 workers) → length work ≡ workers
shares_count names_of work names workers e = sym (length-map work names_of) ∙ ap length e ∙ length-map-range_with_len (λ first. every workers first names) 0 workers
