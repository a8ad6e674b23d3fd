-- The labels of one element more.
use Rattle.std.proofs.Common.{◌≡◌, ℕ, zero, suc, ◌+◌, ◌<◌, ◌≤◌, List, [], ◌∷◌, ◌++◌, length, sym, ap, ◌∙◌, subst, ⊎_elim, arith}
use Rattle.std.specs.Prelude.{ℤ, pos, slice_index_or}
use Rattle.std.proofs.lemmas.Bool.{cases_lt}
use Rattle.std.proofs.lemmas.List.{get_or_append_left, get_or_push}

pub row_at : (x y z : ℤ) (k : ℕ) (f : ℕ → ℤ) → x ≡ f 0 → y ≡ f 1 → z ≡ f 2 → k < 3 → slice_index_or (x ∷ y ∷ z ∷ []) k (pos 0) ≡ f k
row_at x y z zero f hx hy hz h = hx
row_at x y z (suc zero) f hx hy hz h = hy
row_at x y z (suc (suc zero)) f hx hy hz h = hz
row_at x y z (suc (suc (suc k))) f hx hy hz h = absurd (omega arith)

pub row_more : (f : ℕ → ℕ → ℤ) (old new : List (List ℤ)) (row : List ℤ) (n : ℕ) → length old ≡ n → new ≡ old ++ row ∷ [] → ((k : ℕ) → k < 3 → slice_index_or row k (pos 0) ≡ f n k) →
    ((r k : ℕ) → r < n → k < 3 → slice_index_or (slice_index_or old r []) k (pos 0) ≡ f r k) → (r k : ℕ) → r < n + 1 → k < 3 → slice_index_or (slice_index_or new r []) k (pos 0) ≡ f r k
row_more f old new row n each e now before r k less hk = ⊎_elim
    (λ (p : r < n).
    let inside : r < length old = omega arith in
    ap (λ (l : List (List ℤ)). slice_index_or (slice_index_or l r []) k (pos 0)) e ∙ ap (λ (l : List ℤ). slice_index_or l k (pos 0)) (get_or_append_left old (row ∷ []) [] r inside) ∙ before r k p hk)
    (λ (p : n ≤ r).
    let same : r ≡ n = omega arith in
    subst (λ (q : ℕ). slice_index_or (slice_index_or new q []) k (pos 0) ≡ f q k) (sym same)
    (ap (λ (l : List (List ℤ)). slice_index_or (slice_index_or l n []) k (pos 0)) e ∙ ap (λ (l : List ℤ). slice_index_or l k (pos 0)) (get_or_push old row [] n each) ∙ now k hk))
    (cases_lt r n)
